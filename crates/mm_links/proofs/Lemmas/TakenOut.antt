-- A place that is taken out of a chain.
use Rattle.std.proofs.Common.{◌≡◌, ℕ, List, ◌∷◌, ◌++◌, Some, None, length, slice_get, set, sym, ap, subst, ◌∙◌, inr, length-set}
use Rattle.std.proofs.lemmas.Option.{slice_get_within}
use Rattle.mm_lists.specs.Members.{Among, NoRepeat, without}
use Rattle.mm_lists.proofs.Lemmas.Among.{among_left, among_right}
use Rattle.mm_lists.proofs.Lemmas.Cut.{Cut, cut_at, AreApart, AreApart-cut, without-cut}
use Rattle.mm_lists.proofs.Lemmas.Set.{slice_get-set_other, slice_get-set_same}
use Rattle.mm_links.specs.declared.links.Links.{Links}
use Rattle.mm_links.specs.Links.{unlinked, with_next, taken_out}
use Rattle.mm_links.specs.Chain.{head_or, last_or, first_with_next, IsChain}
use Rattle.mm_links.proofs.Lemmas.Ends.{Among-head_or, Among-last_or, first_with_next-cut}
use Rattle.mm_links.proofs.Lemmas.Writes.{slice_get-with_before_other, slice_get-with_next_other, length-with_before, length-with_next}
use Rattle.mm_links.proofs.Lemmas.Chain.{IsChain-append, IsCutChain, IsChain-cut, IsChain-set, IsChain-with_before, IsChain-with_next, IsChain-new_before, IsChain-new_after}

pub length-taken_out : (links : List Links) (r : ℕ) (had : Links) → length (taken_out links r had) ≡ length links
length-taken_out links r had =
    length-with_before (with_next (set links r unlinked) had.before had.next) had.next had.before
    ∙ length-with_next (set links r unlinked) had.before had.next ∙ length-set links r unlinked

module _ (links : List Links) (r : ℕ) (xs : List ℕ) (among : Among r xs) (once : NoRepeat xs) (chain : IsChain links None xs None) where
  abbrev parts : Cut r xs
  parts = cut_at r xs among

  -- what stands before r, and after it
  abbrev earlier : List ℕ
  earlier = parts.earlier

  abbrev later : List ℕ
  later = parts.later

  apart : AreApart earlier r later
  apart = AreApart-cut earlier r later (subst NoRepeat parts.whole once)

  -- the links that r has
  abbrev pub links_there : Links
  links_there = record { before = last_or None earlier; next = head_or later None }

  cut : IsCutChain links None earlier r later None
  cut = IsChain-cut links None earlier r later None (subst (λ ys. IsChain links None ys None) parts.whole chain)

  pub slice_get-there : slice_get links r ≡ Some links_there
  slice_get-there = cut.link

  pub Among-before : (q : ℕ) → links_there.before ≡ Some q → Among q xs
  Among-before q is =
      subst (Among q) (sym parts.whole) (among_left earlier (r ∷ later) q (Among-last_or earlier q is))

  pub Among-next : (q : ℕ) → links_there.next ≡ Some q → Among q xs
  Among-next q is =
      subst (Among q) (sym parts.whole) (among_right earlier (r ∷ later) q (inr (Among-head_or later q is)))

  -- what is not in the chain keeps its links
  pub slice_get-taken_out : (q : ℕ) → (Among q xs → ⊥) → slice_get (taken_out links r links_there) q ≡ slice_get links q
  slice_get-taken_out q absent =
      slice_get-with_before_other (with_next (set links r unlinked) links_there.before links_there.next) links_there.next links_there.before q (λ is. absent (Among-next q is))
      ∙ slice_get-with_next_other (set links r unlinked) links_there.before links_there.next q (λ is. absent (Among-before q is))
      ∙ slice_get-set_other links q r unlinked (λ same. absent (subst (λ k. Among k xs) (sym same) among))

  -- r has none
  pub slice_get-taken_out_same : slice_get (taken_out links r links_there) r ≡ Some unlinked
  slice_get-taken_out_same =
      slice_get-with_before_other (with_next (set links r unlinked) links_there.before links_there.next) links_there.next links_there.before r (λ is. apart.not_later (Among-head_or later r is))
      ∙ slice_get-with_next_other (set links r unlinked) links_there.before links_there.next r (λ is. apart.not_earlier (Among-last_or earlier r is))
      ∙ slice_get-set_same links r unlinked (slice_get_within links r _ cut.link)

  left : without r xs ≡ earlier ++ later
  left = ap (without r) parts.whole ∙ without-cut earlier r later apart

  -- and the others are chained
  pub IsChain-taken_out : IsChain (taken_out links r links_there) None (without r xs) None
  IsChain-taken_out =
      let before = links_there.before in
      let next = links_there.next in
      let links1 : List Links = set links r unlinked in
      let links2 : List Links = with_next links1 before next in
      let front : IsChain links2 None earlier next =
      IsChain-new_after links1 None earlier (Some r) next apart.earlier
      (IsChain-set links r unlinked None earlier (Some r) apart.not_earlier cut.earlier) in
      let back : IsChain links2 (Some r) later None =
      IsChain-with_next links1 before next (Some r) later None (λ q is. apart.disjoint q (Among-last_or earlier q is))
      (IsChain-set links r unlinked (Some r) later None apart.not_later cut.later) in
      let whole : IsChain (taken_out links r links_there) None (earlier ++ later) None =
      IsChain-append (taken_out links r links_there) None earlier later None
      (IsChain-with_before links2 next before None earlier next (λ q is there. apart.disjoint q there (Among-head_or later q is)) front)
      (IsChain-new_before links2 (Some r) before later apart.later back) in
      subst (λ ys. IsChain (taken_out links r links_there) None ys None) (sym left) whole

  -- the first of what is left: what followed r, if r was the first, and else the same as before
  pub first_with_next-taken_out : first_with_next (head_or xs None) links_there.before links_there.next ≡ head_or (without r xs) None
  first_with_next-taken_out =
      ap (λ ys. first_with_next (head_or ys None) links_there.before links_there.next) parts.whole
      ∙ first_with_next-cut earlier r later ∙ ap (λ ys. head_or ys None) (sym left)
