-- Release keeps the laws: it is one hand-over, by a process that waits for nothing.
use Rattle.std.proofs.Common.{◌≡◌, ℕ, nat_eq, true, false, Option, Some, None, IsTrue, refl}
use Rattle.std.specs.Option.{option_map_or}
use Rattle.std.proofs.lemmas.Bool.{eqb-true, not-false}
use Rattle.mm_arena.specs.declared.key.Key.{Key}
use Rattle.mm_rules.specs.TableState.{TableState, owner_of, owns, wait_of, waiters_of}
use Rattle.mm_rules.specs.Change.{hand_over, hand_over_fits}
use Rattle.mm_rules.specs.Event.{release_answer, release_tests, released}
use Rattle.mm_rules.specs.Laws.{Laws}
use Rattle.mm_rules.proofs.States.Outcome.{KeepsLaws, outcome_keeps_laws}
use Rattle.mm_rules.proofs.States.Lookups.{none_of_is_some}
use Rattle.mm_rules.proofs.States.HandOverLaws.{MayHandOver}
use Rattle.mm_rules.proofs.States.HandOver.{hand_over_keeps}

owns_by : (s : TableState) (n r : ℕ) (o : Option Key) → owner_of s r ≡ o → option_map_or (λ (k : Key). nat_eq k.process n) o false ≡ true
    → (k : Key) × (owner_of s r ≡ Some k) × (k.process ≡ n)
owns_by s n r None e own = absurd (cc)
owns_by s n r (Some k) e own = (k, e, eqb-true k.process n own)

pub owns_gives : (s : TableState) (n r : ℕ) → IsTrue (owns s n r) → (k : Key) × (owner_of s r ≡ Some k) × (k.process ≡ n)
owns_gives s n r own = owns_by s n r (owner_of s r) refl own

pub may_hand_over : (s : TableState) (n r : ℕ) (k : Key) → Laws s → wait_of s n ≡ None → owner_of s r ≡ Some k → k.process ≡ n → MayHandOver s r k
may_hand_over s n r k laws active owned e = record { laws = laws; owned = owned; active = rw e active }

pub release_keeps : (s : TableState) (k : Key) (r : ℕ) → Laws s → KeepsLaws s (released s k r).state
release_keeps s k r laws = outcome_keeps_laws s (release_answer (waiters_of s r)) (hand_over s r) (release_tests s k r) laws (λ passed.
    let owner : (h : Key) × (owner_of s r ≡ Some h) × (h.process ≡ k.process) = owns_gives s k.process r (not-false (owns s k.process r) passed.1.1.1.1.0) in
    let may : MayHandOver s r owner.0 = may_hand_over s k.process r owner.0 laws (none_of_is_some (wait_of s k.process) passed.1.1.1.0) owner.1 owner.2 in
    (hand_over_keeps s r owner.0 may (not-false (hand_over_fits s r) passed.1.1.1.1.1.0)).keeps)
