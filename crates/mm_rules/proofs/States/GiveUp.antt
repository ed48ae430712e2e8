-- Give up keeps the laws, and so does the take-back with which an abort begins: the one that waits no longer shows its own label.
use Rattle.std.proofs.Common.{◌≡◌, ◌≢◌, ◌+◌, ℕ, ◌<◌, slice_set, slice_index_or, Bool, true, false, cond, IsTrue, IsFalse, inl, inr, refl, sym, ap, ◌∙◌, arith, length-set, get_or-set_same, get_or-set_other}
use Rattle.std.specs.List.{count_by}
use Rattle.std.proofs.lemmas.Bool.{cases_eq, not-false}
use Rattle.std.proofs.lemmas.List.Sums.{sum_by-set}
use Rattle.mm_label.specs.Label.{label_eq, word_of}
use Rattle.mm_arena.specs.declared.key.Key.{Key}
use Rattle.mm_rules.specs.Graph.{WaitsFor, IsWaiting}
use Rattle.mm_rules.specs.TableState.{TableState, is_waiting, has_verdict, private_of, public_of, graph_of}
use Rattle.mm_rules.specs.Change.{activate, take_back}
use Rattle.mm_rules.specs.Event.{given_up, give_up_tests}
use Rattle.mm_rules.specs.Laws.{Laws}
use Rattle.mm_rules.proofs.States.LabelOrder.{label_eq_true, word_tells}
use Rattle.mm_rules.proofs.States.Lookups.{holder_within, waiting_has_holder}
use Rattle.mm_rules.proofs.States.Laws.{public_within, private_within}
use Rattle.mm_rules.proofs.States.Outcome.{KeepsLaws, outcome_keeps_laws}
use Rattle.mm_rules.proofs.States.Activate.{activated_with_keeps}

give_up_change_keeps : (s : TableState) (n : ℕ) → Laws s → IsTrue (is_waiting s n) → IsFalse (has_verdict s n) → private_of s n ≡ public_of s n → KeepsLaws s (activate s n)
give_up_change_keeps s n laws waiting none own =
    let waits : IsWaiting (graph_of s) n = waiting_has_holder s laws.lawful.well_formed n waiting in
    let before : (v : ℕ) → slice_index_or s.verdicts v false ≡ true → (v ≢ n) × IsTrue (has_verdict s v)
    = λ v verdict. (λ e. (let never : true ≡ false = sym verdict ∙ ap (has_verdict s) e ∙ none in absurd (cc)), verdict) in
    activated_with_keeps s n waits.0 s.verdicts s.totals laws waits.1 (inr (inl (ap word_of (sym own)))) before refl laws.lawful.counted

pub given_up_keeps : (s : TableState) (k : Key) → Laws s → KeepsLaws s (given_up s k).state
given_up_keeps s k laws = outcome_keeps_laws s tt (activate s k.process) (give_up_tests s k) laws (λ passed.
    give_up_change_keeps s k.process laws (not-false (is_waiting s k.process) passed.1.1.0) passed.1.1.1.0
    (label_eq_true (private_of s k.process) (public_of s k.process) (not-false (label_eq (private_of s k.process) (public_of s k.process)) passed.1.1.1.1.0)))

-- ---- the wait and the verdict of a convicted process

module _ (s : TableState) (n : ℕ) (laws : Laws s) (verdict : IsTrue (has_verdict s n)) where
  convicted_waits : WaitsFor (graph_of s) n (laws.convicted n verdict).0
  convicted_waits = (laws.convicted n verdict).1.waits

  within : n < s.config.processes
  within = (holder_within s laws.lawful.well_formed n (laws.convicted n verdict).0 convicted_waits).0

  convicted_own : private_of s n ≡ public_of s n
  convicted_own = word_tells (private_of s n) (public_of s n) (private_within s laws n within) (public_within s laws n within) (laws.convicted n verdict).1.own

  verdict_before : (v : ℕ) → slice_index_or (slice_set s.verdicts n false) v false ≡ true → (v ≢ n) × IsTrue (has_verdict s v)
  verdict_before v now = elim (cases_eq v n) [
    | inl e ↦
        let cleared : slice_index_or (slice_set s.verdicts n false) n false ≡ false = get_or-set_same s.verdicts n false false (omega (arith, within, laws.lawful.well_formed.sizes.verdicts)) in
        let never : true ≡ false = sym now ∙ ap (λ i. slice_index_or (slice_set s.verdicts n false) i false) e ∙ cleared in
        absurd (cc)
    | inr apart ↦ (apart, sym (get_or-set_other s.verdicts n v false false apart) ∙ now)
  ]

  counted : s.totals.verdicts ≡ (s.totals.aborts + 1) + count_by (λ v. v) (slice_set s.verdicts n false)
  counted =
      let less : count_by (λ v. v) (slice_set s.verdicts n false) + cond (slice_index_or s.verdicts n false) 1 0 ≡ count_by (λ v. v) s.verdicts + 0
      = sum_by-set (λ (v : Bool). cond v 1 0) s.verdicts n false false (omega (arith, within, laws.lawful.well_formed.sizes.verdicts)) in
      omega (arith, rw verdict at less, laws.lawful.counted)

  -- there are more verdicts than aborts
  pub aborts_below : s.totals.aborts < s.totals.verdicts
  aborts_below =
      let less : count_by (λ v. v) (slice_set s.verdicts n false) + cond (slice_index_or s.verdicts n false) 1 0 ≡ count_by (λ v. v) s.verdicts + 0
      = sum_by-set (λ (v : Bool). cond v 1 0) s.verdicts n false false (omega (arith, within, laws.lawful.well_formed.sizes.verdicts)) in
      omega (arith, rw verdict at less, laws.lawful.counted)

  pub take_back_keeps : KeepsLaws s (take_back s n)
  take_back_keeps = activated_with_keeps s n (laws.convicted n verdict).0 (slice_set s.verdicts n false) (record s.totals { aborts = s.totals.aborts + 1 }) laws convicted_waits (inr (inl (ap word_of (sym convicted_own))))
      verdict_before (length-set s.verdicts n false) counted
