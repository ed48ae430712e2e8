-- Lists of labels that rise, one for each process, and what a store does to them.
use Rattle.std.proofs.Common.{◌≡◌, ◌≢◌, ℕ, zero, suc, ◌+◌, ◌-◌, ◌<◌, List, [], ◌∷◌, ◌++◌, length, set, IsTrue, refl, sym, ap, ◌∙◌, subst, arith, inl, inr, length-append, length-set, get_or-set_same, get_or-set_other}
use Rattle.std.proofs.lemmas.Bool.{cases_eq, cases_lt}
use Rattle.std.proofs.lemmas.List.{length-map, get_or_past}
use lib.ListN.{get_or-append, get_or-map}
use lib.Seq.{get_or-append_seam}
use Rattle.mm_lists.specs.Members.{Among}
use Rattle.mm_lists.proofs.Lemmas.Among.{among_left}
use Rattle.mm_label.specs.Label.{Label, label_le, opening_label}
use Rattle.mm_board.specs.declared.views.Published.{Published}
use Rattle.mm_board.specs.Views.{label_at, last_label, history, current_label, current_labels, with_label, NoneFalls}
use Rattle.mm_board.specs.Rule.{Rises, IsHistory, WereStored}
use Rattle.mm_board.proofs.Order.{label_le_same, label_le_then}

-- ---- one list

at_among : (labels : List Label) (k : ℕ) → k < length labels → Among (label_at labels k) labels
at_among [] k inside = absurd (omega arith)
at_among (l ∷ ls) zero inside = inl refl
at_among (l ∷ ls) (suc k) inside = inr (at_among ls k (omega arith))

place_of : (labels : List Label) (label : Label) → Among label labels → (k : ℕ) × (k < length labels) × (label_at labels k ≡ label)
place_of [] label among = absurd among
place_of (l ∷ ls) label (inl first) = (0, omega arith, sym first)
place_of (l ∷ ls) label (inr later) = let rest = place_of ls label later in let inside = rest.1 in (suc rest.0, omega arith, rest.2)

pub last_among : (labels : List Label) → 0 < length labels → Among (last_label labels) labels
last_among labels some = at_among labels (length labels - 1) (omega arith)

-- no label of a list that rises is above its last
pub at_most_last : (labels : List Label) (label : Label) → Rises labels → Among label labels → IsTrue (label_le label (last_label labels))
at_most_last labels label rises among =
    let place = place_of labels label among in
    let inside = place.1 in
    subst (λ (l : Label). IsTrue (label_le l (last_label labels))) place.2 (rises place.0 (length labels - 1) (omega arith) (omega arith))

module _ (labels : List Label) (label : Label) where
  length_longer : length (labels ++ label ∷ []) ≡ length labels + 1
  length_longer = omega (arith, length-append labels (label ∷ []))

  old_at : (k : ℕ) → k < length labels → label_at (labels ++ label ∷ []) k ≡ label_at labels k
  old_at k inside = get_or-append labels (label ∷ []) (opening_label 0) k inside

  new_at : label_at (labels ++ label ∷ []) (length labels) ≡ label
  new_at = get_or-append_seam labels label [] (opening_label 0)

  pub last_of_longer : last_label (labels ++ label ∷ []) ≡ label
  last_of_longer =
      let place : length (labels ++ label ∷ []) - 1 ≡ length labels = omega (arith, length_longer) in
      ap (label_at (labels ++ label ∷ [])) place ∙ new_at

  rises_longer : Rises labels → IsTrue (label_le (last_label labels) label) → Rises (labels ++ label ∷ [])
  rises_longer rises above i j ordered inside = elim (cases_lt j (length labels)) [
    | inl old ↦ rw (old_at i (omega arith), old_at j old) (rises i j ordered old)
    | inr new ↦
        let place : j ≡ length labels = omega (arith, length_longer) in
        let top : label_at (labels ++ label ∷ []) j ≡ label = ap (label_at (labels ++ label ∷ [])) place ∙ new_at in
        elim (cases_lt i (length labels)) [
          | inl before ↦
              let low = rises i (length labels - 1) (omega arith) (omega arith) in
              rw (old_at i before, top) (label_le_then (label_at labels i) (last_label labels) label low above)
          | inr last ↦
              let same : i ≡ j = omega arith in
              rw same (label_le_same (label_at (labels ++ label ∷ []) j))
        ]
  ]

  pub history_longer : (i : ℕ) → IsHistory i labels → IsTrue (label_le (last_label labels) label) → IsHistory i (labels ++ label ∷ [])
  history_longer i is above = (omega (arith, length_longer, is.0), old_at 0 is.0 ∙ is.1, rises_longer is.2 above)

-- ---- the lists of all processes

module _ (p : Published) where
  pub length-current_labels : length (current_labels p) ≡ length p.histories
  length-current_labels = length-map p.histories last_label

  pub current_labels_at : (i : ℕ) → label_at (current_labels p) i ≡ current_label p i
  current_labels_at i = get_or-map last_label p.histories i []

  module _ (i : ℕ) (label : Label) where
    pub length-with_label : length (with_label p i label).histories ≡ length p.histories
    length-with_label = length-set p.histories i (history p i ++ label ∷ [])

    pub history_here : i < length p.histories → history (with_label p i label) i ≡ history p i ++ label ∷ []
    history_here inside = get_or-set_same p.histories i (history p i ++ label ∷ []) [] inside

    pub history_else : (j : ℕ) → j ≢ i → history (with_label p i label) j ≡ history p j
    history_else j other = get_or-set_other p.histories i j (history p i ++ label ∷ []) [] other

    -- what was stored before was stored
    pub still_stored : (labels : List Label) → i < length p.histories → WereStored p labels → WereStored (with_label p i label) labels
    still_stored labels inside were = (
      were.0 ∙ sym length-with_label,
      λ j low.
          let within : j < length p.histories = omega (arith, length-with_label) in
          elim (cases_eq j i) [
            | inl same ↦
                let here : history (with_label p i label) j ≡ history p j ++ label ∷ [] = ap (history (with_label p i label)) same ∙ history_here inside ∙ ap (λ k. history p k ++ label ∷ []) (sym same) in
                rw here (among_left (history p j) (label ∷ []) (label_at labels j) (were.1 j within))
            | inr other ↦ rw (history_else j other) (were.1 j within)
          ],
    )

  module _ (are : (i : ℕ) → i < length p.histories → IsHistory i (history p i)) where
    pub current_were_stored : WereStored p (current_labels p)
    current_were_stored = (length-current_labels, λ i inside. rw (current_labels_at i) (last_among (history p i) (are i inside).0))

    -- a reader sees the current label of one process
    pub seen_were_stored : (labels : List Label) (i : ℕ) → i < length p.histories → WereStored p labels → WereStored p (set labels i (current_label p i))
    seen_were_stored labels i inside were = (
      length-set labels i (current_label p i) ∙ were.0,
      λ j low. elim (cases_eq j i) [
        | inl same ↦
            let here : label_at (set labels i (current_label p i)) j ≡ current_label p j
            = ap (label_at (set labels i (current_label p i))) same ∙ get_or-set_same labels i (current_label p i) (opening_label 0) (omega (arith, were.0)) ∙ ap (current_label p) (sym same) in
            rw here (last_among (history p j) (are j low).0)
        | inr other ↦ rw (get_or-set_other labels i j (current_label p i) (opening_label 0) other) (were.1 j low)
      ],
    )

    -- none of them is above the current label
    pub stored_at_most : (labels : List Label) → WereStored p labels → (i : ℕ) → i < length p.histories → IsTrue (label_le (label_at labels i) (current_label p i))
    stored_at_most labels were i inside = at_most_last (history p i) (label_at labels i) (are i inside).2 (were.1 i inside)

    pub stored_never_fall : (labels : List Label) → WereStored p labels → NoneFalls labels (current_labels p)
    stored_never_fall labels were i = elim (cases_lt i (length p.histories)) [
      | inl inside ↦ rw (current_labels_at i) (stored_at_most labels were i inside)
      | inr past ↦
          rw (get_or_past labels i (opening_label 0) (omega (arith, were.0)), get_or_past (current_labels p) i (opening_label 0) (omega (arith, length-current_labels))) (label_le_same (opening_label 0))
    ]
