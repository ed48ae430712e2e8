-- A list that is cut at one of its members, or at a place.
use Rattle.std.proofs.Common.{◌≡◌, ◌⊎◌, ℕ, ◌≤◌, zero, suc, length, not, eqb, List, [], ◌∷◌, ◌++◌, Some, None, take, drop, slice_get, refl, sym, ap, subst, ◌∙◌, inl, inr, arith, length-append}
use Rattle.std.proofs.lemmas.Bool.{eq-eqb}
use Rattle.std.proofs.lemmas.List.Elements.{filter-append}
use Rattle.mm_lists.specs.Members.{Among, NoRepeat, without}
use Rattle.mm_lists.proofs.Lemmas.Among.{among_left, among_right}
use Rattle.mm_lists.proofs.Lemmas.Filter.{without-absent}

-- what stands before r in a list, and what after it
pub record Cut {X : Type 0} (r : X) (list : List X) : Type 0 where
  pub earlier : List X
  pub later : List X
  pub whole : list ≡ earlier ++ r ∷ later

pub cut_at : {X : Type 0} (r : X) (list : List X) → Among r list → Cut r list
cut_at r [] among = absurd among
cut_at r (x ∷ xs) (inl same) = record { earlier = []; later = xs; whole = ap (λ y. y ∷ xs) (sym same) }
cut_at r (x ∷ xs) (inr later) =
    let rest = cut_at r xs later in
    record { earlier = x ∷ rest.earlier; later = rest.later; whole = ap (λ ys. x ∷ ys) rest.whole }

-- a list that is cut at a place
pub split_at_place : {X : Type 0} (xs : List X) (i : ℕ) (x : X) → slice_get xs i ≡ Some x → xs ≡ take i xs ++ x ∷ drop (suc i) xs
split_at_place [] i x found = let never : None ≡ Some x = found in cc
split_at_place (y ∷ xs) zero x found = let here : Some y ≡ Some x = found in let same : y ≡ x = cc in ap (λ z. z ∷ xs) same
split_at_place (y ∷ xs) (suc i) x found = ap (λ zs. y ∷ zs) (split_at_place xs i x found)

-- two lists that repeat nothing, nor what is in the other, nor r
pub record AreApart {X : Type 0} (xs : List X) (r : X) (ys : List X) : Type 0 where
  pub earlier : NoRepeat xs
  pub later : NoRepeat ys
  pub not_earlier : Among r xs → ⊥
  pub not_later : Among r ys → ⊥
  pub disjoint : (q : X) → Among q xs → Among q ys → ⊥

pub AreApart-cut : {X : Type 0} (xs : List X) (r : X) (ys : List X) → NoRepeat (xs ++ r ∷ ys) → AreApart xs r ys
AreApart-cut [] r ys once = record {
  earlier = tt;
  later = once.1;
  not_earlier = λ among. among;
  not_later = once.0;
  disjoint = λ q among _. among;
}
AreApart-cut (x ∷ xs) r ys once =
    let rest = AreApart-cut xs r ys once.1 in
    record {
      earlier = (λ among. once.0 (among_left xs (r ∷ ys) x among), rest.earlier);
      later = rest.later;
      not_earlier = λ among. elim among [
        | inl same ↦ once.0 (among_right xs (r ∷ ys) x (inl (sym same)))
        | inr left ↦ rest.not_earlier left
      ];
      not_later = rest.not_later;
      disjoint = λ q among right. elim among [
        | inl same ↦ once.0 (among_right xs (r ∷ ys) x (inr (subst (λ k. Among k ys) same right)))
        | inr left ↦ rest.disjoint q left right
      ];
    }

-- without r the parts before and after it are left
pub without-cut : (xs : List ℕ) (r : ℕ) (ys : List ℕ) → AreApart xs r ys → without r (xs ++ r ∷ ys) ≡ xs ++ ys
without-cut xs r ys apart =
    filter-append (λ q. not (eqb q r)) xs (r ∷ ys)
    ∙ rw (without-absent r xs apart.not_earlier, eq-eqb r r refl, without-absent r ys apart.not_later) refl

-- ---- the list without the member at which it is cut

pub among_around : {X : Type 0} (x r : X) (before after : List X) → Among x (before ++ after) → Among x (before ++ r ∷ after)
among_around x r [] after found = inr found
among_around x r (q ∷ before) after (inl here) = inl here
among_around x r (q ∷ before) after (inr later) = inr (among_around x r before after later)

pub among_around_gives : {X : Type 0} (x r : X) (before after : List X) → Among x (before ++ r ∷ after) → (x ≡ r) ⊎ Among x (before ++ after)
among_around_gives x r [] after found = found
among_around_gives x r (q ∷ before) after (inl here) = inr (inl here)
among_around_gives x r (q ∷ before) after (inr later) = elim (among_around_gives x r before after later) [ inl is ↦ inl is | inr rest ↦ inr (inr rest) ]

pub no_repeat_around : {X : Type 0} (r : X) (before after : List X) → NoRepeat (before ++ r ∷ after) → NoRepeat (before ++ after) × (Among r (before ++ after) → ⊥)
no_repeat_around r [] after once = (once.1, once.0)
no_repeat_around r (q ∷ before) after once =
    let rest = no_repeat_around r before after once.1 in (
      (λ again. once.0 (among_around q r before after again), rest.0),
      λ found. elim found [
        | inl here ↦ once.0 (subst (λ x. Among x (before ++ r ∷ after)) here (among_right before (r ∷ after) r (inl refl)))
        | inr later ↦ rest.1 later
      ],
    )

-- ---- how long a list is whose members stand in another one

pub no_longer : (xs ys : List ℕ) → NoRepeat xs → ((x : ℕ) → Among x xs → Among x ys) → length xs ≤ length ys
no_longer [] ys once within = omega arith
no_longer (x ∷ xs) ys once within =
    let cut = cut_at x ys (within x (inl refl)) in
    let rest : length xs ≤ length (cut.earlier ++ cut.later) = no_longer xs (cut.earlier ++ cut.later) once.1
    (λ y later. elim (among_around_gives y x cut.earlier cut.later (subst (Among y) cut.whole (within y (inr later)))) [
      | inl same ↦ absurd (once.0 (subst (λ z. Among z xs) same later))
      | inr other ↦ other
    ]) in
    omega (arith, rest, ap length cut.whole, length-append cut.earlier cut.later, length-append cut.earlier (x ∷ cut.later))

-- lists with the same members, each once, are as long
pub same_length : (xs ys : List ℕ) → NoRepeat xs → NoRepeat ys → ((x : ℕ) → Among x xs → Among x ys) → ((x : ℕ) → Among x ys → Among x xs) → length xs ≡ length ys
same_length xs ys once once_too within within_too = omega (arith, no_longer xs ys once within, no_longer ys xs once_too within_too)
