-- Items each of which leads to the next, and what is kept of them once they are freed.
use Rattle.std.specs.Prelude.{◌≡◌, ◌<◌, ℕ, List, [], ◌∷◌, length, slice_set, Option, None, Some}
use Rattle.mm_links.specs.declared.links.Links.{Links}
use Rattle.mm_links.specs.Links.{unlinked, next_of}
use Rattle.mm_tagged_lists.specs.declared.tagged_lists.Item.{Item}

-- from this first one on, each leads to the next, and the last one to none
abbrev pub IsPath : List Links → Option ℕ → List ℕ → Type 0
IsPath links first [] = first ≡ None
IsPath links first (r ∷ rs) = (first ≡ Some r) × (r < length links) × IsPath links (next_of links r) rs

-- with r at no spot, and linked to nothing
abbrev pub freed_in : List Item → ℕ → List Item
freed_in items r = slice_set items r (record { spot = None; links = unlinked })
