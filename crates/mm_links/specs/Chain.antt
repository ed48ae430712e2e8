-- Places that are linked one to the next.
use Rattle.std.specs.Prelude.{◌≡◌, ⊤, ℕ, zero, suc, List, [], ◌∷◌, Option, None, Some, slice_get}
use Rattle.mm_links.specs.declared.links.Links.{Links}
use Rattle.mm_links.specs.Links.{next_of}

-- the first of a list, or what comes after it
abbrev pub head_or : List ℕ → Option ℕ → Option ℕ
head_or [] after = after
head_or (place ∷ places) after = Some place

-- the last of a list, or what comes before it
abbrev pub last_or : Option ℕ → List ℕ → Option ℕ
last_or before [] = before
last_or before (place ∷ places) = last_or (Some place) places

-- the places along the links from a first one, this many at most
abbrev pub walk : List Links → ℕ → Option ℕ → List ℕ
walk links zero first = []
walk links (suc most) None = []
walk links (suc most) (Some place) = place ∷ walk links most (next_of links place)

-- the first of a list, once this follows a place of it: if there is none, this is the first
abbrev pub first_with_next : Option ℕ → Option ℕ → Option ℕ → Option ℕ
first_with_next first None next = next
first_with_next first (Some place) next = first

-- each of these is linked to the one before it and to the one that follows, between what comes before them and after them
abbrev pub IsChain : List Links → Option ℕ → List ℕ → Option ℕ → Type 0
IsChain links before [] after = ⊤
IsChain links before (place ∷ places) after =
    (slice_get links place ≡ Some (record { before = before; next = head_or places after }))
    × IsChain links (Some place) places after
