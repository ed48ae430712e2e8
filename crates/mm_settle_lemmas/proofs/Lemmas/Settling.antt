-- Whom a settle changes: those whose labels it raises, and those to whom it gives a verdict.
use Rattle.std.proofs.Common.{◌≡◌, ◌≢◌, ◌⊎◌, ℕ, Bool, true, false, List, IsTrue, inl, inr, refl, sym, ap, ◌∙◌}
use Rattle.std.proofs.lemmas.Bool.{cases_Bool, cases_eq, not-true}
use Rattle.mm_label.specs.Label.{Label, label_lt, label_le}
use Rattle.mm_rules.specs.TableState.{TableState, public_of, has_verdict}
use Rattle.mm_rules.specs.Change.{can_transmit, transmit}
use Rattle.mm_rules.specs.Laws.{Laws}
use Rattle.mm_rules.proofs.States.LabelOrder.{label_le_then, label_le_lt}
use Rattle.mm_bit_set.specs.BitSet.{has}
use Rattle.mm_settle_lemmas.specs.Touched.{IsChanged, Touches}
use Rattle.mm_settle_lemmas.specs.Steps.Added.{Adds}
use Rattle.mm_settle_lemmas.specs.Steps.Settling.{IsSettling}
use Rattle.mm_settle_lemmas.proofs.Lemmas.Frames.{transmit_holder, transmit_private, transmit_verdict, transmit_public, raised_shows}
use Rattle.mm_settle_lemmas.proofs.Lemmas.Added.{adds_kept}
use Rattle.mm_settle_lemmas.proofs.Lemmas.Changed.{not_kept}
use Rattle.mm_settle_lemmas.proofs.Lemmas.Touched.{unchanged, unchanged_then, transmit_wait, greater_is_changed}

-- ---- labels that rise

label_lt_then : (a b c : Label) → label_lt a b ≡ true → label_lt b c ≡ true → label_lt a c ≡ true
label_lt_then a b c first second = elim (cases_Bool (label_lt a c)) [
  | inl e ↦ e
  | inr above ↦
      let most : IsTrue (label_le c a) = rw above refl in
      let low : IsTrue (label_le c b) = label_le_then c a b most (label_le_lt a b first) in
      let never : true ≡ false = sym second ∙ not-true (label_lt b c) low in
      absurd (cc)
]

-- it is the same label, or a greater one
abbrev Rises : Label → Label → Type 0
Rises a b = (b ≡ a) ⊎ (label_lt a b ≡ true)

rises_then_up : (a b c : Label) → Rises a b → label_lt b c ≡ true → label_lt a c ≡ true
rises_then_up a b c (inl same) up = ap (λ l. label_lt l c) (sym same) ∙ up
rises_then_up a b c (inr before) up = label_lt_then a b c before up

up_then_rises : (a b c : Label) → label_lt a b ≡ true → Rises b c → label_lt a c ≡ true
up_then_rises a b c up (inl same) = ap (label_lt a) same ∙ up
up_then_rises a b c up (inr after) = label_lt_then a b c up after

rises_then : (a b c : Label) → Rises a b → Rises b c → Rises a c
rises_then a b c first (inl same) = elim first [ inl before ↦ inl (same ∙ before) | inr up ↦ inr (ap (label_lt a) same ∙ up) ]
rises_then a b c first (inr up) = inr (rises_then_up a b c first up)

-- ---- one part of a settle after the other

pub settling_starts : (s : TableState) (set : List Bool) → IsSettling s s set set
settling_starts s set = record {
  kept = λ n was. was;
  others = λ n out. unchanged s n;
  rises = λ n. inl refl;
  stands = λ n v. v;
  changed = λ n here. inl here;
  sized = refl;
}

pub settling_then : (s t u : TableState) (a b c : List Bool) → IsSettling s t a b → IsSettling t u b c → IsSettling s u a c
settling_then s t u a b c first second = record {
  kept = λ n was. second.kept n (first.kept n was);
  others = λ n out. unchanged_then s t u n (first.others n (not_kept b c n second.kept out)) (second.others n out);
  rises = λ n. rises_then (public_of s n) (public_of t n) (public_of u n) (first.rises n) (second.rises n);
  stands = λ n v. second.stands n (first.stands n v);
  changed = λ n here. elim (second.changed n here) [
    | inl before ↦ elim (first.changed n before) [
      | inl was ↦ inl was
      | inr how ↦ elim how [
        | inl up ↦ inr (inl (up_then_rises (public_of s n) (public_of t n) (public_of u n) up (second.rises n)))
        | inr given ↦ inr (inr (given.0, second.stands n given.1))
      ]
    ]
    | inr how ↦ elim how [
      | inl up ↦ inr (inl (rises_then_up (public_of s n) (public_of t n) (public_of u n) (first.rises n) up))
      | inr given ↦ inr (inr (none_before n given.0, given.1))
    ]
  ];
  sized = second.sized ∙ first.sized;
}
  where
    none_before : (n : ℕ) → has_verdict t n ≡ false → has_verdict s n ≡ false
    none_before n none = elim (cases_Bool (has_verdict s n)) [
      | inl v ↦ let never : true ≡ false = sym (first.stands n v) ∙ none in absurd (cc)
      | inr e ↦ e
    ]

-- ---- one turn of a settle

-- who is not in the set is not n
out_apart : (n k : ℕ) (old new : List Bool) → Adds n old new → has new k ≡ false → k ≢ n
out_apart n k old new adds out e = (let never : true ≡ false = sym adds.here ∙ ap (has new) (sym e) ∙ out in cc)

pub settling_transmit : (s : TableState) (n : ℕ) (old new : List Bool) → Laws s → can_transmit s n ≡ true → Adds n old new → IsSettling s (transmit s n) old new
settling_transmit s n old new laws can adds = record {
  kept = adds_kept n old new adds;
  others = λ k out. record {
    private = transmit_private s n k;
    public = transmit_public s n k (out_apart n k old new adds out);
    wait = transmit_wait s n k;
    holder = transmit_holder s n k;
    verdict = transmit_verdict s n k;
  };
  rises = λ k. elim (cases_eq k n) [ inl e ↦ inr (up k e) | inr apart ↦ inl (transmit_public s n k apart) ];
  stands = λ k v. transmit_verdict s n k ∙ v;
  changed = λ k here. elim (cases_eq k n) [ inl e ↦ inr (inl (up k e)) | inr apart ↦ inl (sym (adds.others k apart) ∙ here) ];
  sized = adds.sized;
}
  where
    up : (k : ℕ) → k ≡ n → label_lt (public_of s k) (public_of (transmit s n) k) ≡ true
    up k e = rw e (raised_shows s n laws can)

-- ---- the whole of it

-- a verdict that is given is a change
given_is_changed : (s t : TableState) (n : ℕ) → has_verdict s n ≡ false → has_verdict t n ≡ true → IsChanged s t n
given_is_changed s t n none given same = (let never : true ≡ false = sym given ∙ same.verdict ∙ none in cc)

pub settling_touches : (s t : TableState) (old new : List Bool) → IsSettling s t old new → Touches s t old new
settling_touches s t old new way = record {
  kept = way.kept;
  others = way.others;
  changed = λ n here. elim (way.changed n here) [
    | inl was ↦ inl was
    | inr how ↦ elim how [
      | inl up ↦ inr (greater_is_changed s t n up)
      | inr given ↦ inr (given_is_changed s t n given.0 given.1)
    ]
  ];
  sized = way.sized;
}
