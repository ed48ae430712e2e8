-- Several processes block on one, each in turn: only labels change, and each of these gets the label that the first state gives it.
use Rattle.std.proofs.Common.{◌≡◌, ◌≢◌, ℕ, ◌<◌, List, [], ◌∷◌, length, map, fold, inl, inr, refl, ◌∙◌, arith, length-set, get_or-set_same}
use Rattle.mm_label.specs.Label.{fresh_label, opening_label}
use Rattle.mm_lists.specs.Members.{Among, NoRepeat}
use Rattle.mm_rules.specs.TableState.{TableState, Wait, private_of, public_of}
use Rattle.mm_rules.specs.Change.{label_against, block}
use Rattle.mm_rules.proofs.States.Relabels.{KeepsLabels, other_labels}

abbrev pub process_of : Wait → ℕ
process_of w = w.key.process

abbrev pub blocked_all : TableState → ℕ → List Wait → TableState
blocked_all s h ws = fold (λ t w. block t w.key.process h) s ws

pub blocked_is : (s : TableState) (h : ℕ) (ws : List Wait) → blocked_all s h ws ≡ record s { private = (blocked_all s h ws).private; public = (blocked_all s h ws).public }
blocked_is s h [] = refl
blocked_is s h (w ∷ ws) = blocked_is (block s w.key.process h) h ws

-- the labels after these have blocked on h
pub record LabelsAfter (s : TableState) (h : ℕ) (ws : List Wait) (new : TableState) : Type 0 where
  pub waiters : (k : ℕ) → Among k (map process_of ws) → (private_of new k ≡ label_against s k h) × (public_of new k ≡ label_against s k h)
  pub others : (k : ℕ) → (Among k (map process_of ws) → ⊥) → KeepsLabels s new k
  pub private_sized : length new.private ≡ length s.private
  pub public_sized : length new.public ≡ length s.public

abbrev AllWithin : TableState → List Wait → Type 0
AllWithin s ws = (w : Wait) → Among w ws → (w.key.process < length s.private) × (w.key.process < length s.public)

module _ (s : TableState) (h : ℕ) (w : Wait) (ws : List Wait) (new : TableState) (other : h ≢ w.key.process) (once : Among w.key.process (map process_of ws) → ⊥)
    (within : (w.key.process < length s.private) × (w.key.process < length s.public))
    (rest : LabelsAfter (block s w.key.process h) h ws new) where
  first_label : (k : ℕ) → k ≡ w.key.process → (private_of new k ≡ label_against s k h) × (public_of new k ≡ label_against s k h)
  first_label k e =
      let same : KeepsLabels (block s w.key.process h) new w.key.process = rest.others w.key.process once in
      rw e (
        same.private ∙ get_or-set_same s.private w.key.process (label_against s w.key.process h) (opening_label w.key.process) within.0,
        same.public ∙ get_or-set_same s.public w.key.process (label_against s w.key.process h) (opening_label w.key.process) within.1,
      )

  later_label : (k : ℕ) → Among k (map process_of ws) → (private_of new k ≡ label_against s k h) × (public_of new k ≡ label_against s k h)
  later_label k later =
      let apart : k ≢ w.key.process = λ e. once (rw e at later) in
      let own : public_of (block s w.key.process h) k ≡ public_of s k = (other_labels s w.key.process h k apart).public in
      let holder : public_of (block s w.key.process h) h ≡ public_of s h = (other_labels s w.key.process h h other).public in
      let same : label_against (block s w.key.process h) k h ≡ label_against s k h = λ i. fresh_label (own i) (holder i) k in
      ((rest.waiters k later).0 ∙ same, (rest.waiters k later).1 ∙ same)

  other_label : (k : ℕ) → (Among k (map process_of (w ∷ ws)) → ⊥) → KeepsLabels s new k
  other_label k never =
      let now : KeepsLabels (block s w.key.process h) new k = rest.others k (λ later. never (inr later)) in
      let before : KeepsLabels s (block s w.key.process h) k = other_labels s w.key.process h k (λ e. never (inl e)) in
      record { private = now.private ∙ before.private; public = now.public ∙ before.public }

  one_more_blocked : LabelsAfter s h (w ∷ ws) new
  one_more_blocked = record {
    waiters = λ k found. elim found [ inl e ↦ first_label k e | inr later ↦ later_label k later ];
    others = other_label;
    private_sized = rest.private_sized ∙ length-set s.private w.key.process (label_against s w.key.process h);
    public_sized = rest.public_sized ∙ length-set s.public w.key.process (label_against s w.key.process h);
  }

pub labels_after : (s : TableState) (h : ℕ) (ws : List Wait) → NoRepeat (map process_of ws) → (Among h (map process_of ws) → ⊥) → AllWithin s ws
    → LabelsAfter s h ws (blocked_all s h ws)
labels_after s h [] once other within = record {
  waiters = λ k found. absurd found;
  others = λ k never. record { private = refl; public = refl };
  private_sized = refl;
  public_sized = refl;
}
labels_after s h (w ∷ ws) once other within =
    let n = w.key.process in
    one_more_blocked s h w ws (blocked_all s h (w ∷ ws)) (λ e. other (inl e)) once.0 (within w (inl refl))
    (labels_after (block s n h) h ws once.1 (λ later. other (inr later)) (λ x later.
    let was : (x.key.process < length s.private) × (x.key.process < length s.public) = within x (inr later) in
    (omega (arith, length-set s.private n (label_against s n h)), omega (arith, length-set s.public n (label_against s n h)))))
