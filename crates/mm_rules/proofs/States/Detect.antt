-- Detect keeps the laws: a verdict is given where the own label has returned, and it is counted.
use Rattle.std.proofs.Common.{◌≡◌, ◌⊎◌, ◌&&◌, ◌+◌, ℕ, ◌<◌, length, slice_set, slice_index_or, Bool, true, false, not, cond, Option, Some, None, if◌then◌else◌, IsTrue, inl, inr, refl, sym, ap, ◌∙◌, arith, length-set, get_or-set_other}
use Rattle.std.specs.List.{count_by}
use Rattle.std.specs.Option.{option_map_or}
use Rattle.std.proofs.lemmas.Bool.{cases_eq, cases_Bool, and_parts, not-true}
use Rattle.std.proofs.lemmas.List.Sums.{sum_by-set}
use Rattle.mm_label.specs.Label.{label_eq, word_of}
use Rattle.mm_arena.specs.declared.key.Key.{Key}
use Rattle.mm_rules.specs.declared.reply.Detected.TheVariants.{Deadlock, Standing, Clear}
use Rattle.mm_rules.specs.Graph.{LabelReturned}
use Rattle.mm_rules.specs.TableState.{TableState, holder_of, private_of, public_of, has_verdict, graph_of}
use Rattle.mm_rules.specs.Change.{can_detect, detect}
use Rattle.mm_rules.specs.Event.{detected, waiting_tests}
use Rattle.mm_rules.specs.Laws.{Laws}
use Rattle.mm_rules.proofs.States.IsSized.{same_lengths}
use Rattle.mm_rules.proofs.States.LabelOrder.{label_eq_true, label_le_same}
use Rattle.mm_rules.proofs.States.Lookups.{holder_within, waiting_is_some}
use Rattle.mm_rules.proofs.States.Laws.{graph_lawful, laws_by}
use Rattle.mm_rules.proofs.States.Outcome.{KeepsLaws, keeps_same, outcome_keeps_laws}

-- n gets a verdict, and this is counted
abbrev pub convicted : TableState → ℕ → TableState
convicted s n = record s { verdicts = slice_set s.verdicts n true; totals = record s.totals { verdicts = s.totals.verdicts + 1 } }

returned_by_holder : (s : TableState) (n : ℕ) (o : Option ℕ) → holder_of s n ≡ o → private_of s n ≡ public_of s n
    → option_map_or (λ h. label_eq (public_of s n) (public_of s h)) o false ≡ true → (h : ℕ) × LabelReturned (graph_of s) n h
returned_by_holder s n None waits own back = absurd (cc)
returned_by_holder s n (Some h) waits own back =
    (h, record { waits = waits; own = ap word_of own; back = ap word_of (label_eq_true (public_of s n) (public_of s h) back) })

-- where n can detect, it has no verdict and its label has returned
can_detect_gives : (s : TableState) (n : ℕ) → can_detect s n ≡ true → (has_verdict s n ≡ false) × ((h : ℕ) × LabelReturned (graph_of s) n h)
can_detect_gives s n can =
    let two : ((not (has_verdict s n) && label_eq (private_of s n) (public_of s n)) ≡ true) × (option_map_or (λ h. label_eq (public_of s n) (public_of s h)) (holder_of s n) false ≡ true)
    = and_parts (not (has_verdict s n) && label_eq (private_of s n) (public_of s n)) (option_map_or (λ h. label_eq (public_of s n) (public_of s h)) (holder_of s n) false) can in
    let one : (not (has_verdict s n) ≡ true) × (label_eq (private_of s n) (public_of s n) ≡ true)
    = and_parts (not (has_verdict s n)) (label_eq (private_of s n) (public_of s n)) two.0 in
    (not-true (has_verdict s n) one.0, returned_by_holder s n (holder_of s n) refl (label_eq_true (private_of s n) (public_of s n) one.1) two.1)

module _ (s : TableState) (n : ℕ) (laws : Laws s) (fresh : has_verdict s n ≡ false) (h : ℕ) (returned : LabelReturned (graph_of s) n h) where
  within : n < length s.verdicts
  within = omega (arith, (holder_within s laws.lawful.well_formed n h returned.waits).0, laws.lawful.well_formed.sizes.verdicts)

  verdict_before : (v : ℕ) → IsTrue (has_verdict (convicted s n) v) → (v ≡ n) ⊎ IsTrue (has_verdict s v)
  verdict_before v verdict = elim (cases_eq v n) [
    | inl e ↦ inl e
    | inr apart ↦ inr (sym (get_or-set_other s.verdicts n v true false apart) ∙ verdict)
  ]

  counted : count_by (λ v. v) (slice_set s.verdicts n true) ≡ count_by (λ v. v) s.verdicts + 1
  counted =
      let more : count_by (λ v. v) (slice_set s.verdicts n true) + cond (slice_index_or s.verdicts n false) 1 0 ≡ count_by (λ v. v) s.verdicts + 1
      = sum_by-set (λ (v : Bool). cond v 1 0) s.verdicts n true false within in
      omega (arith, rw fresh at more)

  convicted_keeps : KeepsLaws s (convicted s n)
  convicted_keeps = record {
    laws = laws_by (convicted s n)
        (record {
          config = laws.lawful.well_formed.config;
          sizes = same_lengths s _ laws.lawful.well_formed.sizes refl refl refl refl refl (length-set s.verdicts n true) refl;
          owners = laws.lawful.well_formed.owners;
          waits = laws.lawful.well_formed.waits;
          waits_once = laws.lawful.well_formed.waits_once;
          verdicts = λ v verdict. elim (verdict_before v verdict) [
            | inl e ↦ rw e (waiting_is_some s n h returned.waits)
            | inr before ↦ laws.lawful.well_formed.verdicts v before
          ];
          free = laws.lawful.well_formed.free;
          free_once = laws.lawful.well_formed.free_once;
        })
        (record { own = laws.lawful.private_labels.own; at_most_public = laws.lawful.private_labels.at_most_public })
        (record { made = laws.lawful.label_bounds.made; newest = laws.lawful.label_bounds.newest; limit = laws.lawful.label_bounds.limit })
        (graph_lawful s laws)
        (omega (arith, counted, laws.lawful.counted))
        (λ v verdict. elim (verdict_before v verdict) [
          | inl e ↦ rw e (h, returned)
          | inr before ↦ ((laws.convicted v before).0, (laws.convicted v before).1)
        ]);
    rise = λ k. label_le_same (public_of s k);
  }

pub detect_still : (s : TableState) (n : ℕ) → can_detect s n ≡ false → detect s n ≡ s
detect_still s n no_detect = ap (λ b. if b then convicted s n else s) no_detect

pub detect_convicts : (s : TableState) (n : ℕ) → can_detect s n ≡ true → detect s n ≡ convicted s n
detect_convicts s n can = ap (λ b. if b then convicted s n else s) can

pub detect_keeps : (s : TableState) (n : ℕ) → Laws s → KeepsLaws s (detect s n)
detect_keeps s n laws = elim (cases_Bool (can_detect s n)) [
  | inl can ↦
      let gives : (has_verdict s n ≡ false) × ((h : ℕ) × LabelReturned (graph_of s) n h) = can_detect_gives s n can in
      rw (detect_convicts s n can) (convicted_keeps s n laws gives.0 gives.1.0 gives.1.1)
  | inr no_detect ↦ rw (detect_still s n no_detect) (keeps_same s laws)
]

pub detected_keeps : (s : TableState) (k : Key) → Laws s → KeepsLaws s (detected s k).state
detected_keeps s k laws = outcome_keeps_laws s (if has_verdict s k.process then Standing else if can_detect s k.process then Deadlock (private_of s k.process) else Clear)
    (detect s k.process) (waiting_tests s k) laws (λ passed. detect_keeps s k.process laws)
