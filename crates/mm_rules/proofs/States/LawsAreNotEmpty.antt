-- Two transactions that wait for each other: a state that is reached, and in which a verdict stands.
use Rattle.std.proofs.Common.{ℕ, [], ◌∷◌, IsTrue, refl, arith}
use Rattle.mm_rules.specs.declared.config.Config.{Config}
use Rattle.mm_arena.specs.declared.key.Key.{Key}
use Rattle.mm_rules.specs.TableState.{TableState, IsWide, opening, has_verdict}
use Rattle.mm_rules.specs.Event.{Begin, Acquire, Transmit, Detect, IsReached, begun, acquired, transmitted, detected}
use Rattle.mm_rules.specs.Laws.{LawsAreNotEmpty}

abbrev two : Config
two = record { processes = 2; resources = 2; label_limit = 9; generation_limit = 9 }

abbrev k : ℕ → Key
k n = record { process = n; generation = 1 }

-- each begins and is granted a resource of its own
abbrev first_begun : TableState
first_begun = (begun (opening two)).state

abbrev both_begun : TableState
both_begun = (begun first_begun).state

abbrev first_granted : TableState
first_granted = (acquired both_begun (k 0) 0).state

abbrev both_granted : TableState
both_granted = (acquired first_granted (k 1) 1).state

-- each waits for the other
abbrev first_waits : TableState
first_waits = (acquired both_granted (k 0) 1).state

abbrev both_wait : TableState
both_wait = (acquired first_waits (k 1) 0).state

-- the greater label comes round
abbrev raised : TableState
raised = (transmitted both_wait (k 0)).state

abbrev convicted : TableState
convicted = (detected raised (k 1)).state

in_range : IsWide two
in_range = record {
  processes = (omega arith, omega arith);
  resources = (omega arith, omega arith);
  label_limit = (omega arith, omega arith);
  generation_limit = omega arith;
}

is_reached : IsReached two convicted
is_reached = (
  Begin ∷ Begin ∷ Acquire (k 0) 0 ∷ Acquire (k 1) 1 ∷ Acquire (k 0) 1 ∷ Acquire (k 1) 0 ∷ Transmit (k 0) ∷ Detect (k 1) ∷ [],
  (
    first_begun,
    (begun (opening two)).reply,
    (refl, refl),
    (
      both_begun,
      (begun first_begun).reply,
      (refl, refl),
      (
        first_granted,
        (acquired both_begun (k 0) 0).reply,
        (refl, refl),
        (
          both_granted,
          (acquired first_granted (k 1) 1).reply,
          (refl, refl),
          (
            first_waits,
            (acquired both_granted (k 0) 1).reply,
            (refl, refl),
            (
              both_wait,
              (acquired first_waits (k 1) 0).reply,
              (refl, refl),
              (
                raised,
                (transmitted both_wait (k 0)).reply,
                (refl, refl),
                (convicted, (detected raised (k 1)).reply, (refl, refl), refl),
              ),
            ),
          ),
        ),
      ),
    ),
  ),
)

stands : IsTrue (has_verdict convicted 1)
stands = refl

pub laws_are_not_empty : LawsAreNotEmpty
laws_are_not_empty = (two, in_range, convicted, is_reached, 1, stands)
