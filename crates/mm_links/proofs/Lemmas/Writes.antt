-- What a write of one link leaves of the others.
use Rattle.std.proofs.Common.{◌≡◌, ℕ, List, Option, Some, None, length, slice_get, refl, sym, ap, ◌∙◌, length-set}
use Rattle.std.specs.Option.{option_and_then}
use Rattle.std.proofs.lemmas.Option.{slice_get_within}
use Rattle.mm_lists.proofs.Lemmas.Set.{slice_get-set_other, slice_get-set_same}
use Rattle.mm_links.specs.declared.links.Links.{Links}
use Rattle.mm_links.specs.Links.{with_before, with_next}

module _ (links : List Links) where
  pub slice_get-with_before_other : (place before : Option ℕ) (q : ℕ) → (place ≡ Some q → ⊥) → slice_get (with_before links place before) q ≡ slice_get links q
  slice_get-with_before_other None before q other = refl
  slice_get-with_before_other (Some r) before q other =
      slice_get-set_other links q r _ (λ same. other (ap Some (sym same)))

  pub slice_get-with_next_other : (place next : Option ℕ) (q : ℕ) → (place ≡ Some q → ⊥) → slice_get (with_next links place next) q ≡ slice_get links q
  slice_get-with_next_other None next q other = refl
  slice_get-with_next_other (Some r) next q other =
      slice_get-set_other links q r _ (λ same. other (ap Some (sym same)))

  pub slice_get-with_before : (r : ℕ) (before old next : Option ℕ) → slice_get links r ≡ Some (record { before = old; next = next }) → slice_get (with_before links (Some r) before) r ≡ Some (record { before = before; next = next })
  slice_get-with_before r before old next is =
      slice_get-set_same links r _ (slice_get_within links r _ is)
      ∙ ap (λ l. Some (record { before = before; next = option_and_then (λ k. k.next) l })) is

  pub slice_get-with_next : (r : ℕ) (before old next : Option ℕ) → slice_get links r ≡ Some (record { before = before; next = old }) → slice_get (with_next links (Some r) next) r ≡ Some (record { before = before; next = next })
  slice_get-with_next r before old next is =
      slice_get-set_same links r _ (slice_get_within links r _ is)
      ∙ ap (λ l. Some (record { before = option_and_then (λ k. k.before) l; next = next })) is

  pub length-with_before : (place before : Option ℕ) → length (with_before links place before) ≡ length links
  length-with_before None before = refl
  length-with_before (Some r) before = length-set links r _

  pub length-with_next : (place next : Option ℕ) → length (with_next links place next) ≡ length links
  length-with_next None next = refl
  length-with_next (Some r) next = length-set links r _
