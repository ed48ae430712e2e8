-- Labels that a reader has seen do not fall.
use Rattle.std.proofs.Common.{◌≡◌, ℕ, List, IsTrue, inl, inr, sym, ap, ◌∙◌, subst, get_or-set_other}
use Rattle.std.proofs.lemmas.Bool.{cases_eq}
use Rattle.mm_label.specs.Label.{Label, label_le, opening_label}
use Rattle.mm_board.specs.declared.views.Seen.{Seen}
use Rattle.mm_board.specs.Views.{label_at, with_seen, NoneFalls}
use Rattle.mm_board.proofs.Order.{label_le_same, label_le_then}

pub none_falls : (before after : List Label) → after ≡ before → NoneFalls before after
none_falls before after same i = subst (λ ls. IsTrue (label_le (label_at before i) (label_at ls i))) (sym same) (label_le_same (label_at before i))

-- a label was read that is not below the one that was seen before
pub read_rises : (before after : Seen) (n : ℕ) (l : Label) → after ≡ with_seen before n l → l ≡ label_at after.labels n → IsTrue (label_le (label_at before.labels n) l) → NoneFalls before.labels after.labels
read_rises before after n l seen is low i = elim (cases_eq i n) [
  | inl e ↦ rw e (subst (λ k. IsTrue (label_le (label_at before.labels n) k)) is low)
  | inr apart ↦
      let same : label_at after.labels i ≡ label_at before.labels i = ap (λ (s : Seen). label_at s.labels i) seen ∙ get_or-set_other before.labels n i l (opening_label 0) apart in
      subst (λ k. IsTrue (label_le (label_at before.labels i) k)) (sym same) (label_le_same (label_at before.labels i))
]

-- two labels were read, one after the other
pub reads_rise : (before between after : Seen) (n m : ℕ) (k l : Label)
    → between ≡ with_seen before n k → k ≡ label_at between.labels n → IsTrue (label_le (label_at before.labels n) k)
    → after ≡ with_seen between m l → l ≡ label_at after.labels m → IsTrue (label_le (label_at between.labels m) l)
    → NoneFalls before.labels after.labels
reads_rise before between after n m k l seen is low seen2 is2 low2 i =
    label_le_then (label_at before.labels i) (label_at between.labels i) (label_at after.labels i)
    (read_rises before between n k seen is low i) (read_rises between after m l seen2 is2 low2 i)
