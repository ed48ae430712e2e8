-- What is told of those that an event touched: they are the changed processes, and whoever may transmit or newly detect is among them.
use Rattle.std.proofs.Common.{◌≡◌, ◌&&◌, ◌||◌, not, nat_eq, ℕ, Bool, true, false, List, [], ◌∷◌, length, filter, Option, Some, None, inl, inr, refl, sym, ap, ◌∙◌}
use Rattle.std.specs.Bool.{beq}
use Rattle.std.specs.Option.{option_eq}
use Rattle.std.specs.List.{range_with_len}
use Rattle.std.proofs.lemmas.Bool.{cases_Bool, and_parts, or_left, or_parts, not-false, eqb-true, eq-eqb}
use Rattle.std.proofs.lemmas.List.Elements.{filter_agree}
use Rattle.mm_label.specs.Label.{label_eq}
use Rattle.mm_rules.specs.declared.reply.Totals.{Totals}
use Rattle.mm_rules.specs.TableState.{TableState, private_of, public_of, has_verdict, holder_of, wait_of}
use Rattle.mm_rules.proofs.States.LabelOrder.{label_eq_true, label_eq_is}
use Rattle.mm_bit_set.specs.BitSet.{has, members}
use Rattle.mm_settle_lemmas.specs.Touched.{IsUnchanged, IsChanged, Touches, is_changed, changed_processes}
use Rattle.mm_settle_lemmas.specs.Steps.Marked.{IsNoneMarked}
use Rattle.mm_settle_lemmas.specs.Steps.Changed.{AreChanged}
use Rattle.mm_settle_lemmas.proofs.Lemmas.Changed.{changes_keep}
use Rattle.mm_settle_lemmas.proofs.Lemmas.Touched.{touches_changes}

-- ---- the test

number_or_none_is : (a b : Option ℕ) → option_eq nat_eq a b ≡ true → a ≡ b
number_or_none_is None None e = refl
number_or_none_is None (Some y) e = absurd (cc)
number_or_none_is (Some x) None e = absurd (cc)
number_or_none_is (Some x) (Some y) e = ap Some (eqb-true x y e)

number_or_none_eq : (a b : Option ℕ) → a ≡ b → option_eq nat_eq a b ≡ true
number_or_none_eq None None e = refl
number_or_none_eq None (Some y) e = absurd (cc)
number_or_none_eq (Some x) None e = absurd (cc)
number_or_none_eq (Some x) (Some y) e = eq-eqb x y (cc)

verdict_is : (v w : Bool) → beq v w ≡ true → v ≡ w
verdict_is true true e = refl
verdict_is true false e = absurd (cc)
verdict_is false true e = absurd (cc)
verdict_is false false e = refl

verdict_eq : (v w : Bool) → v ≡ w → beq v w ≡ true
verdict_eq true true e = refl
verdict_eq true false e = absurd (cc)
verdict_eq false true e = absurd (cc)
verdict_eq false false e = refl

module _ (s t : TableState) (n : ℕ) where
  pub unchanged_is : is_changed s t n ≡ false → IsUnchanged s t n
  unchanged_is same =
      let own = label_eq (private_of t n) (private_of s n) in
      let shown = label_eq (public_of t n) (public_of s n) in
      let waits = option_eq nat_eq (wait_of t n) (wait_of s n) in
      let held = option_eq nat_eq (holder_of t n) (holder_of s n) in
      let found = beq (has_verdict t n) (has_verdict s n) in
      let five = and_parts (own && shown && waits && held) found (not-false (own && shown && waits && held && found) same) in
      let four = and_parts (own && shown && waits) held five.0 in
      let three = and_parts (own && shown) waits four.0 in
      let two = and_parts own shown three.0 in
      record {
        private = label_eq_true (private_of t n) (private_of s n) two.0;
        public = label_eq_true (public_of t n) (public_of s n) two.1;
        wait = number_or_none_is (wait_of t n) (wait_of s n) three.1;
        holder = number_or_none_is (holder_of t n) (holder_of s n) four.1;
        verdict = verdict_is (has_verdict t n) (has_verdict s n) five.1;
      }

  pub unchanged_not : IsUnchanged s t n → is_changed s t n ≡ false
  unchanged_not same =
      let own = label_eq_is (private_of t n) (private_of s n) same.private in
      let shown = label_eq_is (public_of t n) (public_of s n) same.public in
      let waits = number_or_none_eq (wait_of t n) (wait_of s n) same.wait in
      let held = number_or_none_eq (holder_of t n) (holder_of s n) same.holder in
      let found = verdict_eq (has_verdict t n) (has_verdict s n) same.verdict in
      λ i. not (own i && shown i && waits i && held i && found i)

-- ---- those that are told

pub told : (s t : TableState) (old new : List Bool) → Touches s t old new → IsNoneMarked old → length old ≡ s.config.processes → members new ≡ changed_processes s t
told s t old new touched none sized =
    ap (λ m. filter (has new) (range_with_len 0 m)) (touched.sized ∙ sized) ∙ filter_agree (has new) (is_changed s t) same (range_with_len 0 s.config.processes)
  where
    is : (n : ℕ) → IsChanged s t n → is_changed s t n ≡ true
    is n changed = elim (cases_Bool (is_changed s t n)) [
      | inl e ↦ e
      | inr still ↦ absurd (changed (unchanged_is s t n still))
    ]

    same : (n : ℕ) → has new n ≡ is_changed s t n
    same n = elim (cases_Bool (has new n)) [
      | inl here ↦ elim (touched.changed n here) [
        | inl was ↦ let never : true ≡ false = sym was ∙ none n in absurd (cc)
        | inr changed ↦ here ∙ sym (is n changed)
      ]
      | inr out ↦ out ∙ sym (unchanged_not s t n (touched.others n out))
    ]

filter_nobody : (p : ℕ → Bool) (ns : List ℕ) → ((n : ℕ) → p n ≡ false) → filter p ns ≡ []
filter_nobody p [] none = refl
filter_nobody p (n ∷ ns) none = rw (none n) (filter_nobody p ns none)

-- the count of events touches nobody
pub touches_counted : (s t : TableState) (old new : List Bool) (totals : Totals) → Touches s t old new → Touches s (record t { totals = totals }) old new
touches_counted s t old new totals touched = record {
  kept = touched.kept;
  others = λ n out.
      let same = touched.others n out in
      record { private = same.private; public = same.public; wait = same.wait; holder = same.holder; verdict = same.verdict };
  changed = λ n here. elim (touched.changed n here) [
    | inl was ↦ inl was
    | inr changed ↦ inr (λ same. changed (record { private = same.private; public = same.public; wait = same.wait; holder = same.holder; verdict = same.verdict }))
  ];
  sized = touched.sized;
}

-- what an event touched, starting from the empty set, is added to the changed
pub touches_union : (s t : TableState) (none touched changed more : List Bool) → Touches s t none touched → AreChanged s changed
    → ((k : ℕ) → has more k ≡ (has changed k || has touched k)) → AreChanged t more
touches_union s t none touched changed more touches are union =
    let only = touches_changes s t none touched touches in
    let out_of : (k : ℕ) → has more k ≡ false → has touched k ≡ false = λ k out. (or_parts (has changed k) (has touched k) (sym (union k) ∙ out)).1 in
    changes_keep s t changed more
    (record {
      kept = λ k was. union k ∙ or_left (has changed k) (has touched k) was;
      holders = λ k out. only.holders k (out_of k out);
      publics = λ k out. only.publics k (out_of k out);
      privates = λ k out. only.privates k (out_of k out);
      verdicts = λ k out. only.verdicts k (out_of k out);
    })
    are
