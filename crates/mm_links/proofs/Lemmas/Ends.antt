-- The first and the last of a list.
use Rattle.std.proofs.Common.{◌≡◌, ℕ, List, [], ◌∷◌, ◌++◌, Option, Some, None, refl, sym, inl, inr}
use Rattle.std.proofs.lemmas.Option.{same_Some}
use Rattle.mm_lists.specs.Members.{Among}
use Rattle.mm_links.specs.Chain.{head_or, last_or, first_with_next}

pub head_or-append : (xs ys : List ℕ) (after : Option ℕ) → head_or (xs ++ ys) after ≡ head_or xs (head_or ys after)
head_or-append [] ys after = refl
head_or-append (x ∷ xs) ys after = refl

pub Among-head_or : (xs : List ℕ) (q : ℕ) → head_or xs None ≡ Some q → Among q xs
Among-head_or [] q is = absurd (cc)
Among-head_or (x ∷ xs) q is = inl (sym (same_Some x q is))

pub Among-last : (x : ℕ) (xs : List ℕ) (q : ℕ) → last_or (Some x) xs ≡ Some q → Among q (x ∷ xs)
Among-last x [] q is = inl (sym (same_Some x q is))
Among-last x (y ∷ ys) q is = inr (Among-last y ys q is)

pub Among-last_or : (xs : List ℕ) (q : ℕ) → last_or None xs ≡ Some q → Among q xs
Among-last_or [] q is = absurd (cc)
Among-last_or (x ∷ xs) q is = Among-last x xs q is

-- with one before, the first of a list stays
pub first_with_next-last : (first : Option ℕ) (x : ℕ) (xs : List ℕ) (next : Option ℕ) → first_with_next first (last_or (Some x) xs) next ≡ first
first_with_next-last first x [] next = refl
first_with_next-last first x (y ∷ ys) next = first_with_next-last first y ys next

-- the first of a list from which r is cut
pub first_with_next-cut : (xs : List ℕ) (r : ℕ) (ys : List ℕ) → first_with_next (head_or (xs ++ r ∷ ys) None) (last_or None xs) (head_or ys None) ≡ head_or (xs ++ ys) None
first_with_next-cut [] r ys = refl
first_with_next-cut (x ∷ xs) r ys = first_with_next-last (Some x) x xs (head_or ys None)
