-- What a transmit leaves as it was: waits and holders, and all but n and those that wait for n transmit and detect as before.
use Rattle.std.proofs.Common.{◌≡◌, ◌≢◌, ◌&&◌, ◌<◌, ℕ, Bool, true, false, not, Option, Some, None, is_some, option_and_then, if◌then◌else◌, IsTrue, inl, inr, refl, sym, ap, ◌∙◌, arith, get_or-set_same, get_or-set_other}
use Rattle.std.specs.Option.{option_map_or}
use Rattle.std.proofs.lemmas.Bool.{cases_Bool, not-true}
use Rattle.mm_label.specs.Label.{Label, label_lt, label_eq, label_le, opening_label}
use Rattle.mm_rules.specs.TableState.{TableState, private_of, public_of, has_verdict, holder_of, is_waiting}
use Rattle.mm_rules.specs.Change.{greater_label, can_transmit, transmit, can_detect}
use Rattle.mm_rules.specs.Laws.{Laws}
use Rattle.mm_rules.proofs.States.LabelOrder.{label_eq_true, label_le_same}
use Rattle.mm_rules.proofs.States.Lookups.{none_of_is_some, no_holder, holder_within, holder_apart}
use Rattle.mm_rules.proofs.States.Transmit.{shown, HolderIsAbove, transmit_cases, transmit_shown}

-- ---- what a transmit does not touch

module _ (s : TableState) (n k : ℕ) where
  pub transmit_holder : holder_of (transmit s n) k ≡ holder_of s k
  transmit_holder = by (greater_label s n)
    where
      by : (o : Option Label) → holder_of (option_map_or (shown s n) o s) k ≡ holder_of s k
      by None = refl
      by (Some l) = refl

  pub transmit_private : private_of (transmit s n) k ≡ private_of s k
  transmit_private = by (greater_label s n)
    where
      by : (o : Option Label) → private_of (option_map_or (shown s n) o s) k ≡ private_of s k
      by None = refl
      by (Some l) = refl

  pub transmit_verdict : has_verdict (transmit s n) k ≡ has_verdict s k
  transmit_verdict = by (greater_label s n)
    where
      by : (o : Option Label) → has_verdict (option_map_or (shown s n) o s) k ≡ has_verdict s k
      by None = refl
      by (Some l) = refl

  pub transmit_public : k ≢ n → public_of (transmit s n) k ≡ public_of s k
  transmit_public apart = by (greater_label s n)
    where
      by : (o : Option Label) → public_of (option_map_or (shown s n) o s) k ≡ public_of s k
      by None = refl
      by (Some l) = get_or-set_other s.public n k l (opening_label k) apart

pub transmit_config : (s : TableState) (n : ℕ) → (transmit s n).config ≡ s.config
transmit_config s n = by (greater_label s n)
  where
    by : (o : Option Label) → (option_map_or (shown s n) o s).config ≡ s.config
    by None = refl
    by (Some l) = refl

-- ---- by the holder

abbrev pub greater_from : TableState → ℕ → Option ℕ → Option Label
greater_from s n o = option_and_then (λ h. if label_lt (public_of s n) (public_of s h) then Some (public_of s h) else None) o

abbrev pub detects_from : TableState → ℕ → Option ℕ → Bool
detects_from s n o = not (has_verdict s n) && label_eq (private_of s n) (public_of s n) && option_map_or (λ h. label_eq (public_of s n) (public_of s h)) o false

-- who has no holder neither transmits nor detects
pub idle_transmits_not : (s : TableState) (k : ℕ) → holder_of s k ≡ None → can_transmit s k ≡ false
idle_transmits_not s k idle = ap (λ o. is_some (greater_from s k o)) idle

pub idle_detects_not : (s : TableState) (k : ℕ) → holder_of s k ≡ None → can_detect s k ≡ false
idle_detects_not s k idle = ap (detects_from s k) idle ∙ none (not (has_verdict s k)) (label_eq (private_of s k) (public_of s k))
  where
    none : (a b : Bool) → (a && b && false) ≡ false
    none true true = refl
    none true false = refl
    none false true = refl
    none false false = refl

pub not_waiting_idle : (s : TableState) (k : ℕ) → is_waiting s k ≡ false → holder_of s k ≡ None
not_waiting_idle s k active = no_holder s k (none_of_is_some _ active)

-- ---- the frame of a transmit

pub cannot_still : (s : TableState) (n : ℕ) → can_transmit s n ≡ false → transmit s n ≡ s
cannot_still s n still = ap (λ o. option_map_or (shown s n) o s) (none_of_is_some (greater_label s n) still)

module _ (s : TableState) (n k : ℕ) (apart : k ≢ n) (other : holder_of s k ≢ Some n) where
  greater_apart : (o : Option ℕ) → o ≢ Some n → greater_from (transmit s n) k o ≡ greater_from s k o
  greater_apart None holds = refl
  greater_apart (Some h) holds =
      let mine = transmit_public s n k apart in
      let its = transmit_public s n h (λ e. holds (ap Some e)) in
      λ i. if label_lt (mine i) (its i) then Some (its i) else None

  -- whoever is neither n nor waits for n transmits as before
  pub transmit_frame : can_transmit (transmit s n) k ≡ can_transmit s k
  transmit_frame = ap (λ o. is_some (greater_from (transmit s n) k o)) (transmit_holder s n k) ∙ ap is_some (greater_apart (holder_of s k) other)

  detects_apart : (o : Option ℕ) → o ≢ Some n → detects_from (transmit s n) k o ≡ detects_from s k o
  detects_apart None holds =
      let v = transmit_verdict s n k in
      let own = transmit_private s n k in
      let mine = transmit_public s n k apart in
      λ i. not (v i) && label_eq (own i) (mine i) && false
  detects_apart (Some h) holds =
      let v = transmit_verdict s n k in
      let own = transmit_private s n k in
      let mine = transmit_public s n k apart in
      let its = transmit_public s n h (λ e. holds (ap Some e)) in
      λ i. not (v i) && label_eq (own i) (mine i) && label_eq (mine i) (its i)

  -- and detects as before
  pub detect_frame : can_detect (transmit s n) k ≡ can_detect s k
  detect_frame = ap (detects_from (transmit s n) k) (transmit_holder s n k) ∙ detects_apart (holder_of s k) other

-- ---- who rose

pub not_below_itself : (l : Label) → label_lt l l ≡ false
not_below_itself l = not-true (label_lt l l) (label_le_same l)

private_is_not : (own before now : Label) → IsTrue (label_le own before) → label_lt before now ≡ true → label_eq own now ≡ false
private_is_not own before now low up = elim (cases_Bool (label_eq own now)) [
  | inr e ↦ e
  | inl same ↦
      let is : own ≡ now = label_eq_true own now same in
      let down : label_lt before now ≡ false = ap (label_lt before) (sym is) ∙ not-true (label_lt before own) low in
      let never : true ≡ false = sym up ∙ down in
      absurd (cc)
]

middle_fails : (a b c : Bool) → b ≡ false → (a && b && c) ≡ false
middle_fails a true c fails = absurd (cc)
middle_fails true false c fails = refl
middle_fails false false true fails = refl
middle_fails false false false fails = refl

module _ (s : TableState) (n : ℕ) (laws : Laws s) where
  rises_by : (h : ℕ) → HolderIsAbove s n h → (can_transmit (transmit s n) n ≡ false) × (can_detect (transmit s n) n ≡ false)
  rises_by h above =
      let formed = laws.lawful.well_formed in
      let inside : n < s.config.processes = (holder_within s formed n h above.waits).0 in
      let now : public_of (transmit s n) n ≡ public_of s h
      = ap (λ t. public_of t n) (transmit_shown s laws n h above) ∙ get_or-set_same s.public n (public_of s h) (opening_label n) (omega (arith, formed.sizes.public)) in
      let its : public_of (transmit s n) h ≡ public_of s h = transmit_public s n h (λ e. holder_apart s formed n h above.waits (sym e)) in
      let waits : holder_of (transmit s n) n ≡ Some h = transmit_holder s n n ∙ above.waits in
      let level : label_lt (public_of (transmit s n) n) (public_of (transmit s n) h) ≡ false = (λ i. label_lt (now i) (its i)) ∙ not_below_itself (public_of s h) in
      let own : label_eq (private_of (transmit s n) n) (public_of (transmit s n) n) ≡ false
      = (λ i. label_eq (transmit_private s n n i) (now i)) ∙ private_is_not (private_of s n) (public_of s n) (public_of s h) (laws.lawful.private_labels.at_most_public n) above.lower in (
        ap (λ o. is_some (greater_from (transmit s n) n o)) waits
            ∙ ap (λ (b : Bool). is_some (if b then Some (public_of (transmit s n) h) else None)) level,
        middle_fails (not (has_verdict (transmit s n) n)) _ _ own,
      )

  rises : can_transmit s n ≡ true → (can_transmit (transmit s n) n ≡ false) × (can_detect (transmit s n) n ≡ false)
  rises can = elim (transmit_cases s laws n) [
    | inl still ↦ let never : true ≡ false = sym can ∙ ap is_some still.0 in absurd (cc)
    | inr raised ↦ rises_by raised.0 raised.1
  ]

  -- who took over a label has none to take over, and is not deadlocked by what is its own
  pub risen_transmits_not : can_transmit s n ≡ true → can_transmit (transmit s n) n ≡ false
  risen_transmits_not can = (rises can).0

  pub risen_detects_not : can_transmit s n ≡ true → can_detect (transmit s n) n ≡ false
  risen_detects_not can = (rises can).1

-- whoever transmits shows a greater label than before
pub raised_shows : (s : TableState) (n : ℕ) → Laws s → can_transmit s n ≡ true → label_lt (public_of s n) (public_of (transmit s n) n) ≡ true
raised_shows s n laws can = elim (transmit_cases s laws n) [
  | inl still ↦ let never : true ≡ false = sym can ∙ ap is_some still.0 in absurd (cc)
  | inr raised ↦
      let h = raised.0 in
      let formed = laws.lawful.well_formed in
      let inside : n < s.config.processes = (holder_within s formed n h raised.1.waits).0 in
      let now : public_of (transmit s n) n ≡ public_of s h
      = ap (λ t. public_of t n) (transmit_shown s laws n h raised.1) ∙ get_or-set_same s.public n (public_of s h) (opening_label n) (omega (arith, formed.sizes.public)) in
      ap (label_lt (public_of s n)) now ∙ raised.1.lower
]
