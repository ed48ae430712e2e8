-- Chains, their parts, and what a write leaves of them.
use Rattle.std.proofs.Common.{◌≡◌, ℕ, zero, suc, ◌≤◌, List, [], ◌∷◌, ◌++◌, Option, Some, None, length, set, slice_get, refl, sym, ap, subst, ◌∙◌, inl, inr, arith}
use Rattle.std.proofs.lemmas.Option.{same_Some}
use Rattle.mm_lists.specs.Members.{Among, NoRepeat}
use Rattle.mm_lists.proofs.Lemmas.Set.{slice_get-set_other}
use Rattle.mm_links.specs.declared.links.Links.{Links}
use Rattle.mm_links.specs.Links.{with_before, with_next}
use Rattle.mm_links.specs.Chain.{walk, head_or, last_or, IsChain}
use Rattle.mm_links.proofs.Lemmas.Ends.{head_or-append, Among-last}
use Rattle.mm_links.proofs.Lemmas.Writes.{slice_get-with_before, slice_get-with_before_other, slice_get-with_next, slice_get-with_next_other}

-- ---- chains and their parts

-- a chain reads only its own places
pub IsChain-kept : (links new : List Links) (before : Option ℕ) (xs : List ℕ) (after : Option ℕ) → ((q : ℕ) → Among q xs → slice_get new q ≡ slice_get links q) → IsChain links before xs after → IsChain new before xs after
IsChain-kept links new before [] after same chain = tt
IsChain-kept links new before (x ∷ xs) after same chain = (
  same x (inl refl) ∙ chain.0,
  IsChain-kept links new (Some x) xs after (λ q among. same q (inr among)) chain.1,
)

-- a walk from the first on gives the chain
pub walk-IsChain : (links : List Links) (before : Option ℕ) (xs : List ℕ) (most : ℕ) → length xs ≤ most → IsChain links before xs None → walk links most (head_or xs None) ≡ xs
walk-IsChain links before [] zero short chain = refl
walk-IsChain links before [] (suc most) short chain = refl
walk-IsChain links before (x ∷ xs) zero short chain = absurd (omega arith)
walk-IsChain links before (x ∷ xs) (suc most) short chain =
    rw chain.0 (ap (λ ys. x ∷ ys) (walk-IsChain links (Some x) xs most (omega arith) chain.1))

-- two chains in a row
pub IsChain-append : (links : List Links) (before : Option ℕ) (xs ys : List ℕ) (after : Option ℕ) → IsChain links before xs (head_or ys after) → IsChain links (last_or before xs) ys after → IsChain links before (xs ++ ys) after
IsChain-append links before [] ys after left right = right
IsChain-append links before (x ∷ xs) ys after left right = (
  rw (head_or-append xs ys after) left.0,
  IsChain-append links (Some x) xs ys after left.1 right,
)

-- a chain that is cut at r
pub record IsCutChain (links : List Links) (before : Option ℕ) (xs : List ℕ) (r : ℕ) (ys : List ℕ) (after : Option ℕ) : Type 0 where
  pub earlier : IsChain links before xs (Some r)
  pub link : slice_get links r ≡ Some (record { before = last_or before xs; next = head_or ys after })
  pub later : IsChain links (Some r) ys after

pub IsChain-cut : (links : List Links) (before : Option ℕ) (xs : List ℕ) (r : ℕ) (ys : List ℕ) (after : Option ℕ) → IsChain links before (xs ++ r ∷ ys) after → IsCutChain links before xs r ys after
IsChain-cut links before [] r ys after chain = record { earlier = tt; link = chain.0; later = chain.1 }
IsChain-cut links before (x ∷ xs) r ys after chain =
    let rest = IsChain-cut links (Some x) xs r ys after chain.1 in
    record {
      earlier = (rw (head_or-append xs (r ∷ ys) after) at chain.0, rest.earlier);
      link = rest.link;
      later = rest.later;
    }

-- ---- writes

-- a write of a place outside
pub IsChain-set : (links : List Links) (r : ℕ) (link : Links) (before : Option ℕ) (xs : List ℕ) (after : Option ℕ) → (Among r xs → ⊥) → IsChain links before xs after → IsChain (set links r link) before xs after
IsChain-set links r link before xs after outside =
    IsChain-kept links _ before xs after (λ q among. slice_get-set_other links q r link (λ same. outside (subst (λ k. Among k xs) same among)))

pub IsChain-with_before : (links : List Links) (place new : Option ℕ) (before : Option ℕ) (xs : List ℕ) (after : Option ℕ) → ((q : ℕ) → place ≡ Some q → Among q xs → ⊥) → IsChain links before xs after → IsChain (with_before links place new) before xs after
IsChain-with_before links place new before xs after outside =
    IsChain-kept links _ before xs after (λ q among. slice_get-with_before_other links place new q (λ is. outside q is among))

pub IsChain-with_next : (links : List Links) (place new : Option ℕ) (before : Option ℕ) (xs : List ℕ) (after : Option ℕ) → ((q : ℕ) → place ≡ Some q → Among q xs → ⊥) → IsChain links before xs after → IsChain (with_next links place new) before xs after
IsChain-with_next links place new before xs after outside =
    IsChain-kept links _ before xs after (λ q among. slice_get-with_next_other links place new q (λ is. outside q is among))

-- something else before a chain
pub IsChain-new_before : (links : List Links) (before new : Option ℕ) (xs : List ℕ) → NoRepeat xs → IsChain links before xs None → IsChain (with_before links (head_or xs None) new) new xs None
IsChain-new_before links before new [] once chain = tt
IsChain-new_before links before new (x ∷ xs) once chain = (
  slice_get-with_before links x new before _ chain.0,
  IsChain-with_before links (Some x) new (Some x) xs None (λ q is among. once.0 (subst (λ k. Among k xs) (sym (same_Some x q is)) among)) chain.1,
)

-- something else after a chain
pub IsChain-new_after : (links : List Links) (before : Option ℕ) (xs : List ℕ) (after new : Option ℕ) → NoRepeat xs → IsChain links before xs after → IsChain (with_next links (last_or None xs) new) before xs new
IsChain-new_after links before [] after new once chain = tt
IsChain-new_after links before (x ∷ []) after new once chain = (slice_get-with_next links x before after new chain.0, tt)
IsChain-new_after links before (x ∷ y ∷ ys) after new once chain = (
  slice_get-with_next_other links (last_or (Some y) ys) new x (λ is. once.0 (Among-last y ys x is)) ∙ chain.0,
  IsChain-new_after links (Some x) (y ∷ ys) after new once.1 chain.1,
)
