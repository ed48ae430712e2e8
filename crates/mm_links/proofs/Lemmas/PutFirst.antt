-- A place that is put first in a chain.
use Rattle.std.proofs.Common.{◌≡◌, ◌≢◌, ℕ, ◌<◌, List, ◌∷◌, Option, Some, None, length, slice_get, set, ◌∙◌, length-set}
use Rattle.mm_lists.specs.Members.{Among, NoRepeat}
use Rattle.mm_lists.proofs.Lemmas.Set.{slice_get-set_other, slice_get-set_same}
use Rattle.mm_links.specs.declared.links.Links.{Links}
use Rattle.mm_links.specs.Links.{put_first}
use Rattle.mm_links.specs.Chain.{head_or, IsChain}
use Rattle.mm_links.proofs.Lemmas.Ends.{Among-head_or}
use Rattle.mm_links.proofs.Lemmas.Writes.{slice_get-with_before_other, length-with_before}
use Rattle.mm_links.proofs.Lemmas.Chain.{IsChain-set, IsChain-new_before}

pub length-put_first : (links : List Links) (r : ℕ) (first : Option ℕ) → length (put_first links r first) ≡ length links
length-put_first links r first = length-with_before (set links r _) first (Some r) ∙ length-set links r _

-- what is neither r nor in the chain keeps its links
pub slice_get-put_first : (links : List Links) (r : ℕ) (xs : List ℕ) (q : ℕ) → q ≢ r → (Among q xs → ⊥) → slice_get (put_first links r (head_or xs None)) q ≡ slice_get links q
slice_get-put_first links r xs q other absent =
    slice_get-with_before_other (set links r _) (head_or xs None) (Some r) q (λ is. absent (Among-head_or xs q is))
    ∙ slice_get-set_other links q r _ other

-- and the chain begins with r
pub IsChain-put_first : (links : List Links) (r : ℕ) (xs : List ℕ) → r < length links → (Among r xs → ⊥) → NoRepeat xs → IsChain links None xs None → IsChain (put_first links r (head_or xs None)) None (r ∷ xs) None
IsChain-put_first links r xs inside absent once chain =
    let link : Links = record { before = None; next = head_or xs None } in (
      slice_get-with_before_other (set links r link) (head_or xs None) (Some r) r (λ is. absent (Among-head_or xs r is))
          ∙ slice_get-set_same links r link inside,
      IsChain-new_before (set links r link) None (Some r) xs once (IsChain-set links r link None xs None absent chain),
    )
