-- Between two settles: whoever may transmit or newly detect is among the changed, or its holder is; and how these become pending.
use Rattle.std.proofs.Common.{◌≡◌, ◌⊎◌, ◌&&◌, ◌+◌, ℕ, Bool, true, false, not, List, slice_set, Option, Some, None, is_some, if◌then◌else◌, inl, inr, refl, sym, ap, ◌∙◌, arith}
use Rattle.std.specs.Option.{option_map_or}
use Rattle.std.proofs.lemmas.Bool.{cases_Bool, cases_eq, cases_lt}
use Rattle.mm_label.specs.Label.{label_lt, label_eq}
use Rattle.mm_rules.specs.TableState.{TableState, has_verdict, holder_of}
use Rattle.mm_rules.specs.Change.{can_transmit, can_detect, detect}
use Rattle.mm_lists.proofs.Lemmas.Set.{true_still}
use Rattle.mm_rules.proofs.States.Detect.{detect_still, detect_convicts}
use Rattle.mm_bit_set.specs.BitSet.{has, IsNextMember}
use Rattle.mm_settle_lemmas.specs.Steps.Marked.{AddsWaiters}
use Rattle.mm_settle_lemmas.specs.Steps.Changed.{holder_in, AreChanged, ChangesOnly, IsLoading}
use Rattle.mm_settle_lemmas.proofs.Lemmas.Frames.{greater_from, detects_from, idle_transmits_not, idle_detects_not}
use Rattle.mm_settle_lemmas.proofs.Lemmas.Passes.{has_cleared, has_apart, not_cleared}

-- ---- events

pub not_kept : (old new : List Bool) (k : ℕ) → ((j : ℕ) → has old j ≡ true → has new j ≡ true) → has new k ≡ false → has old k ≡ false
not_kept old new k kept out = elim (cases_Bool (has old k)) [
  | inr was_out ↦ was_out
  | inl was_in ↦ let never : true ≡ false = sym (kept k was_in) ∙ out in absurd (cc)
]

verdict_lost_by : (v w a b : Bool) → (v ≡ true → w ≡ true) → (not v && a && b) ≡ false → (not w && a && b) ≡ false
verdict_lost_by true true a b kept none = none
verdict_lost_by false false a b kept none = none
verdict_lost_by true false a b kept none = absurd (let never : false ≡ true = kept refl in cc)
verdict_lost_by false true a b kept none = all_false a b
  where
    all_false : (a b : Bool) → (false && a && b) ≡ false
    all_false true true = refl
    all_false true false = refl
    all_false false true = refl
    all_false false false = refl

module _ (s t : TableState) (old new : List Bool) (only : ChangesOnly s t old new) (was : AreChanged s old) where
  -- who has the holder that it had, which is not among the changed either, does as before
  module _ (k h : ℕ) (out : has new k ≡ false) (holder_out : has new h ≡ false) (holder : holder_of s k ≡ Some h) (now : holder_of t k ≡ Some h) where
    holder_was_out : holder_in s old k ≡ false
    holder_was_out = ap (λ o. option_map_or (has old) o false) holder ∙ not_kept old new h only.kept holder_out

    transmits_not : can_transmit t k ≡ false
    transmits_not =
        let before : is_some (greater_from s k (Some h)) ≡ false = ap (λ o. is_some (greater_from s k o)) (sym holder) ∙ was.transmits k (not_kept old new k only.kept out) holder_was_out in
        let mine = only.publics k out in
        let its = only.publics h holder_out in
        ap (λ o. is_some (greater_from t k o)) now ∙ (λ i. is_some (if label_lt (mine i) (its i) then Some (its i) else None)) ∙ before

    detects_not : can_detect t k ≡ false
    detects_not =
        let before : detects_from s k (Some h) ≡ false = ap (detects_from s k) (sym holder) ∙ was.detects k (not_kept old new k only.kept out) holder_was_out in
        let mine = only.publics k out in
        let own = only.privates k out in
        let its = only.publics h holder_out in
        ap (detects_from t k) now ∙ (λ i. not (has_verdict t k) && label_eq (own i) (mine i) && label_eq (mine i) (its i))
        ∙ verdict_lost_by (has_verdict s k) (has_verdict t k) _ _ (only.verdicts k out) before

  by_holder : (k : ℕ) (o : Option ℕ) → holder_of t k ≡ o → has new k ≡ false → option_map_or (has new) o false ≡ false → (can_transmit t k ≡ false) × (can_detect t k ≡ false)
  by_holder k None idle out far = (idle_transmits_not t k idle, idle_detects_not t k idle)
  by_holder k (Some h) now out far =
      let before = sym (only.holders k out) ∙ now in (transmits_not k h out far before now, detects_not k h out far before now)

  -- so every event keeps the set that adds to it each whose labels or wait it changes
  pub changes_keep : AreChanged t new
  changes_keep = record {
    transmits = λ k out far. (by_holder k (holder_of t k) refl out far).0;
    detects = λ k out far. (by_holder k (holder_of t k) refl out far).1;
  }

-- a detect adds nobody
pub changes_detect : (s : TableState) (n : ℕ) (set : List Bool) → ChangesOnly s (detect s n) set set
changes_detect s n set = elim (cases_Bool (can_detect s n)) [
  | inr no_detect ↦ rw (detect_still s n no_detect) (record { kept = λ k was. was; holders = λ k out. refl; publics = λ k out. refl; privates = λ k out. refl; verdicts = λ k out v. v })
  | inl can ↦ rw (detect_convicts s n can)
      (record { kept = λ k was. was; holders = λ k out. refl; publics = λ k out. refl; privates = λ k out. refl; verdicts = λ k out v. true_still s.verdicts n k v })
]

-- ---- from the changed to the pending

pub loading_starts : (s : TableState) (changed pending : List Bool) → AreChanged s changed → IsLoading s 0 changed pending
loading_starts s changed pending are = record {
  transmits = λ k out far none. are.transmits k out far;
  detects = λ k out far none. are.detects k out far;
  below = λ k under. absurd (omega arith);
}

module _ (s : TableState) (from : ℕ) (changed pending more : List Bool) (way : IsLoading s from changed pending) (n : ℕ) (next : IsNextMember changed from n)
    (mine : (holder_of s n ≡ None) ⊎ (has more n ≡ true)) (adds : AddsWaiters s n pending more) where
  holder_far : (k : ℕ) (o : Option ℕ) → holder_of s k ≡ o → has more k ≡ false → option_map_or (has (slice_set changed n false)) o false ≡ false → option_map_or (has changed) o false ≡ false
  holder_far k None waits out far = refl
  holder_far k (Some h) waits out far = elim (not_cleared changed n h far) [
    | inr gone ↦ gone
    | inl e ↦ let never : true ≡ false = sym (adds.added k (waits ∙ ap Some e)) ∙ out in absurd (cc)
  ]

  was_out : (k : ℕ) → has more k ≡ false → has pending k ≡ false
  was_out k out = not_kept pending more k adds.kept out

  idle_or_was : (k : ℕ) → has (slice_set changed n false) k ≡ false → has more k ≡ false → (holder_of s k ≡ None) ⊎ (has changed k ≡ false)
  idle_or_was k gone out = elim (not_cleared changed n k gone) [
    | inr was ↦ inr was
    | inl e ↦ elim mine [
      | inl idle ↦ inl (ap (holder_of s) e ∙ idle)
      | inr here ↦ let never : true ≡ false = sym here ∙ ap (has more) (sym e) ∙ out in absurd (cc)
    ]
  ]

  pub loading_next : IsLoading s (n + 1) (slice_set changed n false) more
  loading_next = record {
    transmits = λ k gone far out. elim (idle_or_was k gone out) [
      | inl idle ↦ idle_transmits_not s k idle
      | inr was ↦ way.transmits k was (holder_far k (holder_of s k) refl out far) (was_out k out)
    ];
    detects = λ k gone far out. elim (idle_or_was k gone out) [
      | inl idle ↦ idle_detects_not s k idle
      | inr was ↦ way.detects k was (holder_far k (holder_of s k) refl out far) (was_out k out)
    ];
    below = λ k under. elim (cases_eq k n) [
      | inl e ↦ ap (has (slice_set changed n false)) e ∙ has_cleared changed n
      | inr apart ↦ has_apart changed n k false apart ∙ (elim (cases_lt k from) [
        | inl low ↦ way.below k low
        | inr high ↦ next.first k high (omega arith)
      ])
    ];
  }

-- where nobody can transmit or newly detect, nobody need be among the changed
pub none_changed : (s : TableState) (changed : List Bool) → ((k : ℕ) → can_transmit s k ≡ false) → ((k : ℕ) → can_detect s k ≡ false) → AreChanged s changed
none_changed s changed transmits detects = record { transmits = λ k out far. transmits k; detects = λ k out far. detects k }

-- one turn of the loading, where n was taken from the changed
pub loading_turn : (s : TableState) (from : ℕ) (changed pending more : List Bool) → IsLoading s from changed pending → (n : ℕ) → IsNextMember changed from n
    → ((holder_of s n ≡ None) ⊎ (has more n ≡ true)) → AddsWaiters s n pending more → (taken : List Bool) → taken ≡ slice_set changed n false → IsLoading s (n + 1) taken more
loading_turn s from changed pending more way n next mine adds taken cleared = rw cleared (loading_next s from changed pending more way n next mine adds)
