-- A pass: one way through the pending processes in ascending order. It is one sweep of all that wait.
use Rattle.std.specs.Prelude.{◌≡◌, ◌≤◌, ◌<◌, ◌+◌, ◌-◌, ℕ, Bool, true, false, List, fold, slice_set}
use Rattle.std.specs.List.{range_with_len}
use Rattle.mm_bit_set.specs.BitSet.{has}
use Rattle.mm_rules.specs.TableState.{TableState}
use Rattle.mm_rules.specs.Change.{transmit, raises_along, sweep, sweep_raises}
use Rattle.mm_settle_lemmas.specs.Steps.Marked.{AddsWaiters, AreMarked}

-- the processes of a table at or above this place
abbrev pub ahead : ℕ → ℕ → List ℕ
ahead from processes = range_with_len from (processes - from)

-- what the turn of n makes of both sets: if it raised, those that wait for n are pending, and else n is left to check
abbrev pub IsTurn : TableState → ℕ → Bool → List Bool → List Bool → List Bool → List Bool → Type 0
IsTurn s n true pending checks more checked = AddsWaiters s n pending more × (checked ≡ checks)
IsTurn s n false pending checks more checked = (more ≡ pending) × (checked ≡ slice_set checks n true)

-- the sweep of s, if each process below this place had its turn, and this many labels were raised
pub record IsPassing (s : TableState) (from raises : ℕ) (pending checks : List Bool) (now : TableState) : Type 0 where
  pub state : fold transmit now (ahead from s.config.processes) ≡ sweep s
  pub raised : raises + raises_along now (ahead from s.config.processes) ≡ sweep_raises s
  pub marked : AreMarked now pending checks
  pub below : raises ≡ 0 → (k : ℕ) → k < from → has pending k ≡ false
  pub config : now.config ≡ s.config
  pub few : raises ≤ from
  pub within : from ≤ s.config.processes

-- the whole sweep; if it raised nothing, nobody is pending
pub record IsPassed (s : TableState) (raises : ℕ) (pending checks : List Bool) (new : TableState) : Type 0 where
  pub state : new ≡ sweep s
  pub raised : raises ≡ sweep_raises s
  pub marked : AreMarked new pending checks
  pub none : raises ≡ 0 → (k : ℕ) → has pending k ≡ false
