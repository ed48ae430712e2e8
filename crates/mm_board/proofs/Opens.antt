-- A new board meets its rule.
use Rattle.std.proofs.Common.{inl, ◌≡◌, ℕ, zero, suc, ◌+◌, ◌<◌, List, [], ◌∷◌, map, length, None, refl, sym, ap, ◌∙◌, subst, arith}
use Rattle.std.specs.Prelude.{slice_index}
use Rattle.std.specs.List.{range_with_len}
use Rattle.std.proofs.lemmas.List.{length-replicate, get_or-replicate}
use Rattle.std.proofs.lemmas.List.FromFn.{length-map-range_with_len, get_or-map-range_with_len}
use mathlib.Core.Option.{some, some-injective, some-ne-none}
use lib.ListN.{get_elem?}
use Rattle.atomic_table.specs.Table.{opening}
use Rattle.mm_label.specs.Label.{Label, opening_label}
use Rattle.mm_board.specs.declared.views.Published.{Published}
use Rattle.mm_board.specs.declared.views.View.{View}
use Rattle.mm_board.specs.declared.views.View.TheVariants.{Publishes}
use Rattle.mm_board.specs.Views.{label_at, last_label, history, current_labels, current_holder, opening_labels, opening_published, holder_of}
use Rattle.mm_board.specs.Rule.{Rises, IsPublished, MayKnow, IsBoard}
use Rattle.mm_board.specs.private.Opening.{AreOpening}
use Rattle.mm_board.proofs.Order.{label_le_same}

pub length-opening_histories : (n : ℕ) → length (opening_published n).histories ≡ n
length-opening_histories n = length-map-range_with_len (λ i. opening_label i ∷ []) 0 n

pub length-opening_holders : (n : ℕ) → length (opening_published n).holders ≡ n
length-opening_holders n = length-replicate n None

pub length-opening_labels : (n : ℕ) → length (opening_labels n) ≡ n
length-opening_labels n = length-map-range_with_len opening_label 0 n

-- the current labels at first are the opening labels
lasts_of_singles : (is : List ℕ) → map last_label (map (λ i. opening_label i ∷ []) is) ≡ map opening_label is
lasts_of_singles [] = refl
lasts_of_singles (i ∷ is) = ap (λ ls. opening_label i ∷ ls) (lasts_of_singles is)

pub current_at_first : (n : ℕ) → current_labels (opening_published n) ≡ opening_labels n
current_at_first n = lasts_of_singles (range_with_len 0 n)

-- ---- each part of the rule

single_rises : (label : Label) → Rises (label ∷ [])
single_rises label i j ordered inside =
    let first : i ≡ 0 = omega arith in
    let second : j ≡ 0 = omega arith in
    rw (first, second) (label_le_same label)

pub history_at_first : (n i : ℕ) → i < n → history (opening_published n) i ≡ opening_label i ∷ []
history_at_first n i inside = get_or-map-range_with_len (λ k. opening_label k ∷ []) 0 n i i [] inside (omega arith)

pub opening_at : (n i : ℕ) → i < n → label_at (opening_labels n) i ≡ opening_label i
opening_at n i inside = get_or-map-range_with_len opening_label 0 n i i (opening_label 0) inside (omega arith)

holder_at_first : (n i : ℕ) → i < n → current_holder (opening_published n) i ≡ None
holder_at_first n i inside = get_or-replicate n i None None inside

pub opening_is_published : (words : List ℕ) (n : ℕ) → AreOpening words n → IsPublished words (opening_published n)
opening_is_published words n are =
    let sized = length-opening_histories n in
    record {
      words_sized = omega (arith, are.sized);
      holders_sized = length-replicate n None ∙ sym sized;
      labels = λ i low. are.labels i (omega arith) ∙ sym (ap last_label (history_at_first n i (omega arith)));
      holders = λ i low. ap (λ k. holder_of (slice_index words (k + i))) sized ∙ are.holders i (omega arith) ∙ sym (holder_at_first n i (omega arith));
      others = λ i low. rw (holder_at_first n i (omega arith)) tt;
      histories = λ i low. rw (history_at_first n i (omega arith)) (omega arith, refl, single_rises (opening_label i));
      met = (
        length-opening_labels n ∙ sym sized,
        λ i low. rw (history_at_first n i (omega arith), opening_at n i (omega arith)) (inl refl),
      );
    }

pub opens : (words : List ℕ) (n : ℕ) → AreOpening words n → IsBoard (opening words [] (Publishes (opening_published n)))
opens words n are = record {
  published = opening_published n;
  publisher = 0;
  words = opening_is_published words n are;
  publishes = refl;
  views = one (opening_published n);
} where
  one : (p : Published) (seat : ℕ) (view : View) → get_elem? (Publishes p ∷ []) seat ≡ some view → MayKnow p 0 seat view
  one p zero view e = subst (MayKnow p 0 0) (some-injective _ _ e) (refl, refl)
  one p (suc seat) view e = absurd (some-ne-none view (sym e))
