-- Events at the limit of the counts.
use Rattle.std.proofs.Common.{◌≡◌, ℕ, ◌^◌, ◌<◌, Bool, true, false, ◌||◌, [], ◌∷◌, Err, nat_le, MatchBool, ◌⊎◌, inl, inr, refl, subst, ap, ◌∙◌, arith}
use Rattle.std.specs.Bool.{⊤}
use Rattle.std.proofs.lemmas.Bool.{leb-true, le-leb}
use Rattle.mm_rules.specs.declared.refusal.Refusal.{Refusal}
use Rattle.mm_rules.specs.declared.refusal.Refusal.TheVariants.{CountsExhausted}
use Rattle.mm_rules.specs.TableState.{TableState}
use Rattle.mm_rules.specs.Change.{sweep_raises, swept}
use Rattle.mm_rules.specs.Event.{Event, Begin, Acquire, Release, Finish, Transmit, Detect, Abort, Settle, GiveUp, Tests, Gives, Step, Settles, allowed, decided, outcome, settled, counts_exhausted}
use Rattle.mm_rules.proofs.States.Determined.{steps_are_determined}
use Rattle.example_calls.specs.Counts.{IsAtLimit, RefusesAll, RefusedAtLimit, RefusedOnlyAtLimit, LastEventIsCounted, LastVerdictIsCounted, SettlePassesLimit, both_wait, before_last_verdict}

-- ---- the test of the counts

or_by : (a b : Bool) → (a ≡ true) ⊎ (b ≡ true) → (a || b) ≡ true
or_by true b either = refl
or_by false b (inl never) = absurd (cc)
or_by false b (inr is) = is

by_or : (a b : Bool) → (a || b) ≡ true → (a ≡ true) ⊎ (b ≡ true)
by_or true b is = inl refl
by_or false b is = inr is

exhausted : (s : TableState) → IsAtLimit s → counts_exhausted s ≡ true
exhausted s (inl accepted) = or_by _ _ (inl (le-leb (2 ^ 62) s.totals.accepted accepted))
exhausted s (inr verdicts) = or_by _ _ (inr (le-leb (2 ^ 62) s.totals.verdicts verdicts))

at_limit : (s : TableState) → counts_exhausted s ≡ true → IsAtLimit s
at_limit s is = elim (by_or (nat_le (2 ^ 62) s.totals.accepted) (nat_le (2 ^ 62) s.totals.verdicts) is) [
  | inl accepted ↦ inl (leb-true (2 ^ 62) s.totals.accepted accepted)
  | inr verdicts ↦ inr (leb-true (2 ^ 62) s.totals.verdicts verdicts)
]

-- ---- at the limit

gives_refusal : {A : Type 0} (b : Bool) (rest : Tests) (s : TableState) (answer : A) (new : TableState) → b ≡ true
    → Gives (outcome ((b, CountsExhausted) ∷ rest) s answer new) (Err CountsExhausted) s
gives_refusal true rest s answer new is = (refl, refl)
gives_refusal false rest s answer new never = absurd (cc)

settle_by : (b : Bool) (A B : Type 0) → b ≡ true → A → MatchBool b A B
settle_by true A B is given = given
settle_by false A B never given = absurd (cc)

refuses : (s : TableState) → counts_exhausted s ≡ true → (e : Event) → Step e s (Err CountsExhausted) s
refuses s is Begin = gives_refusal (counts_exhausted s) _ s _ _ is
refuses s is (Acquire k r) = gives_refusal (counts_exhausted s) _ s _ _ is
refuses s is (Release k r) = gives_refusal (counts_exhausted s) _ s _ _ is
refuses s is (Finish k) = gives_refusal (counts_exhausted s) _ s _ _ is
refuses s is (Transmit k) = gives_refusal (counts_exhausted s) _ s _ _ is
refuses s is (Detect k) = gives_refusal (counts_exhausted s) _ s _ _ is
refuses s is (Abort k) = gives_refusal (counts_exhausted s) _ s _ _ is
refuses s is Settle = settle_by (counts_exhausted s) _ _ is (gives_refusal (counts_exhausted s) _ s _ _ is)
refuses s is (GiveUp k) = gives_refusal (counts_exhausted s) _ s _ _ is

refuses_all : (s : TableState) → counts_exhausted s ≡ true → RefusesAll s
refuses_all s is e reply new = (
  λ step. steps_are_determined e s new s reply (Err CountsExhausted) step (refuses s is e),
  λ refused. rw (refused.0, refused.1) (refuses s is e),
)

pub refused_at_limit : RefusedAtLimit
refused_at_limit s limit = refuses_all s (exhausted s limit)

-- ---- only at the limit

abbrev counts : Refusal → Bool
counts CountsExhausted = true
counts refusal = false

-- none of these tests refuses because of the counts
abbrev Others : Tests → Type 0
Others [] = ⊤
Others ((b, refusal) ∷ tests) = (counts refusal ≡ false) × Others tests

not_said : {A : Type 0} (tests : Tests) (s : TableState) (answer : A) (new : TableState) → Others tests
    → Err CountsExhausted ≡ (decided (allowed tests) s answer new).reply → ⊥
not_said [] s answer new others e = cc
not_said ((true, refusal) ∷ tests) s answer new others e =
    let same : CountsExhausted ≡ refusal = cc in
    let never : true ≡ false = ap counts same ∙ others.0 in
    absurd (cc)
not_said ((false, refusal) ∷ tests) s answer new others e = not_said tests s answer new others.1 e

only_by : {A : Type 0} (b : Bool) (tests : Tests) (s : TableState) (answer : A) (new after : TableState) → Others tests
    → Gives (outcome ((b, CountsExhausted) ∷ tests) s answer new) (Err CountsExhausted) after → b ≡ true
only_by true tests s answer new after others gives = refl
only_by false tests s answer new after others gives = absurd (not_said tests s answer new others gives.0)

settle_only : (s after : TableState) (b : Bool)
    → MatchBool b (Gives (settled s 0) (Err CountsExhausted) after) ((n : ℕ) × Settles s n × Gives (settled s n) (Err CountsExhausted) after) → counts_exhausted s ≡ true
settle_only s after true step = only_by (counts_exhausted s) [] s _ _ after tt step
settle_only s after false (n, settles, step) = only_by (counts_exhausted s) [] s _ _ after tt step

exhausted_by : (e : Event) (s after : TableState) → Step e s (Err CountsExhausted) after → counts_exhausted s ≡ true
exhausted_by Begin s after step = only_by (counts_exhausted s) _ s _ _ after (refl, tt) step
exhausted_by (Acquire k r) s after step = only_by (counts_exhausted s) _ s _ _ after (refl, (refl, (refl, (refl, (refl, tt))))) step
exhausted_by (Release k r) s after step = only_by (counts_exhausted s) _ s _ _ after (refl, (refl, (refl, (refl, (refl, tt))))) step
exhausted_by (Finish k) s after step = only_by (counts_exhausted s) _ s _ _ after (refl, (refl, (refl, tt))) step
exhausted_by (Transmit k) s after step = only_by (counts_exhausted s) _ s _ _ after (refl, (refl, tt)) step
exhausted_by (Detect k) s after step = only_by (counts_exhausted s) _ s _ _ after (refl, (refl, tt)) step
exhausted_by (Abort k) s after step = only_by (counts_exhausted s) _ s _ _ after (refl, (refl, (refl, tt))) step
exhausted_by Settle s after step = settle_only s after (counts_exhausted s) step
exhausted_by (GiveUp k) s after step = only_by (counts_exhausted s) _ s _ _ after (refl, (refl, (refl, (refl, tt)))) step

pub refused_only_at_limit : RefusedOnlyAtLimit
refused_only_at_limit e s after step = at_limit s (exhausted_by e s after step)

-- ---- three states

pub last_event_is_counted : LastEventIsCounted
last_event_is_counted = (refl, refl, refuses_all _ refl)

-- one sweep raises something, and the next one nothing
settles_by : (s : TableState) → sweep_raises (swept s 1) ≡ 0 → 0 < sweep_raises s → Settles s 1
settles_by s still raises = record {
  still = still;
  first = λ m below. let none : 0 ≡ m = omega (arith, below) in subst (λ n. 0 < sweep_raises (swept s n)) none raises;
}

pub last_verdict_is_counted : LastVerdictIsCounted
last_verdict_is_counted = (
  (1, settles_by both_wait refl (omega arith), (refl, refl)),
  refl,
  refl,
  refl,
  refl,
  refl,
  refl,
  refl,
  refl,
  refl,
  refuses_all _ refl,
)

pub settle_passes_limit : SettlePassesLimit
settle_passes_limit = ((1, settles_by before_last_verdict refl (omega arith), (refl, refl)), refl, refuses_all _ refl)
