-- Abort keeps the laws: the convicted process takes back its wait, and then vacates as at a finish.
use Rattle.std.proofs.Common.{◌≡◌, ◌≢◌, ℕ, nat_eq, not, Some, IsTrue, refl, sym, ap, ◌∙◌}
use Rattle.std.specs.List.{range_with_len}
use Rattle.std.proofs.lemmas.Bool.{eqb-true, ne_eqb, not-false, not_from_false}
use Rattle.mm_arena.specs.declared.key.Key.{Key}
use Rattle.mm_lists.proofs.Lemmas.Filter.{filter_filter, filter_gives}
use Rattle.mm_lists.proofs.Lemmas.Among.{list_all_at, list_all_from}
use Rattle.mm_rules.specs.TableState.{TableState, is_of, is_live, owner_of, owns, has_verdict, resources_of, waiters_of}
use Rattle.mm_rules.specs.Change.{take_back, abort, hand_over_fits, vacate_fits}
use Rattle.mm_rules.specs.Event.{aborted, abort_tests}
use Rattle.mm_rules.specs.Laws.{Laws}
use Rattle.mm_rules.proofs.States.Lookups.{held}
use Rattle.mm_rules.proofs.States.Outcome.{KeepsLaws, keeps_then, outcome_keeps_laws}
use Rattle.mm_rules.proofs.States.Activate.{waits_no_longer}
use Rattle.mm_rules.proofs.States.GiveUp.{take_back_keeps}
use Rattle.mm_rules.proofs.States.HandOver.{fits_again}
use Rattle.mm_rules.proofs.States.Release.{owns_gives}
use Rattle.mm_rules.proofs.States.Vacate.{live_process, vacate_keeps}

module _ (s : TableState) (n : ℕ) (laws : Laws s) where
  -- n waits for nothing of its own, so taking it back changes no queue of what it owns
  own_waiters : (r : ℕ) → IsTrue (owns s n r) → waiters_of (take_back s n) r ≡ waiters_of s r
  own_waiters r own =
      let owner : (k : Key) × (owner_of s r ≡ Some k) × (k.process ≡ n) = owns_gives s n r own in
      filter_filter (λ w. nat_eq w.resource r) (λ w. not (is_of n w)) s.waits (λ w among for_r.
      let other : (k : Key) × (owner_of s w.resource ≡ Some k) × (k.process ≢ w.key.process) = held s laws.lawful.well_formed w among in
      let same : Some other.0 ≡ Some owner.0 = sym other.1 ∙ ap (owner_of s) (eqb-true w.resource r for_r) ∙ owner.1 in
      let key : other.0 ≡ owner.0 = cc in
      not_from_false (is_of n w) (ne_eqb w.key.process n (λ e. other.2 (ap (λ (k : Key). k.process) key ∙ owner.2 ∙ sym e))))

  pub fits_still : IsTrue (vacate_fits s n) → IsTrue (vacate_fits (take_back s n) n)
  fits_still fits = list_all_from (hand_over_fits (take_back s n)) (resources_of s n) (λ r among.
      let own : IsTrue (owns s n r) = (filter_gives (owns s n) (range_with_len 0 s.config.resources) r among).1 in
      rw (own_waiters r own) (fits_again s (take_back s n) (waiters_of s r) refl (λ w found. refl) (list_all_at (hand_over_fits s) (resources_of s n) r fits among)))

  abort_change_keeps : (k : Key) → k.process ≡ n → IsTrue (is_live s k) → IsTrue (has_verdict s n) → IsTrue (vacate_fits s n) → KeepsLaws s (abort s n)
  abort_change_keeps k e live verdict fits =
      let withdrawn : KeepsLaws s (take_back s n) = take_back_keeps s n laws verdict in
      keeps_then s (take_back s n) (abort s n) withdrawn
      (vacate_keeps (take_back s n) n withdrawn.laws (rw e at (live_process s k live)) (waits_no_longer s n) (fits_still fits))

pub abort_keeps : (s : TableState) (k : Key) → Laws s → KeepsLaws s (aborted s k).state
abort_keeps s k laws = outcome_keeps_laws s tt (abort s k.process) (abort_tests s k) laws (λ passed.
    abort_change_keeps s k.process laws k refl (not-false (is_live s k) passed.1.0) (not-false (has_verdict s k.process) passed.1.1.0)
    (not-false (vacate_fits s k.process) passed.1.1.1.0))
