-- How the fields of a `TaggedLists` keep its spots and its lists.
use Rattle.std.specs.Prelude.{◌≡◌, ◌≤◌, ℕ, List, length, map, Option, None}
use Rattle.mm_tagged_lists.specs.declared.spot.Spot.{Spot}
use Rattle.mm_links.specs.declared.links.Links.{Links}
use Rattle.mm_links.specs.Link.{none_number}
use Rattle.mm_links.specs.Links.{next_of}
use Rattle.mm_links.specs.Chain.{head_or, walk, IsChain}
use Rattle.mm_tagged_lists.specs.declared.tagged_lists.Item.{Item}
use Rattle.mm_tagged_lists.specs.TaggedLists.{Listing, ListsMatchSpots, spot_at, list_at}

-- the links of each item
abbrev pub links_of : List Item → List Links
links_of items = map (λ r. r.links) items

-- the spot of each item
abbrev pub spots_of : List Item → List (Option Spot)
spots_of items = map (λ r. r.spot) items

-- what a contract sees of the fields: the spots that are kept, and the lists along the links
abbrev pub seen : List (Option ℕ) → List Item → Listing
seen firsts items = record {
  spots = spots_of items;
  lists = map (walk (links_of items) (length (links_of items))) firsts;
}

-- the firsts and the links keep the lists of this, and the numbers of its items and lists are in range
pub record AreLinked (s : Listing) (firsts : List (Option ℕ)) (links : List Links) : Type 0 where
  pub heads : firsts ≡ map (λ rs. head_or rs None) s.lists
  pub chains : (n : ℕ) → IsChain links None (list_at s n) None
  pub loose : (r : ℕ) → spot_at s r ≡ None → next_of links r ≡ None
  pub size : length links ≡ length s.spots
  pub few_items : length links ≤ none_number
  pub few_lists : length firsts ≤ none_number
  pub matched : ListsMatchSpots s

-- the fields keep what a contract sees of them
abbrev pub AreConsistent : List (Option ℕ) → List Item → Type 0
AreConsistent firsts items = AreLinked (seen firsts items) firsts (links_of items)
