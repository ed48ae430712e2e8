-- What a contract sees of a `TaggedLists`.
use Rattle.std.specs.Prelude.{◌≡◌, ◌↔◌, ℕ, List, [], ◌∷◌, ◌++◌, Option, None, Some, map, option_map, replicate, slice_index_or, slice_set}
use Rattle.mm_tagged_lists.specs.declared.spot.Spot.{Spot}
use Rattle.mm_lists.specs.Members.{Among, NoRepeat, head, without}

-- the spot of each item, or none, and the items of each list, those that came last first
pub record Listing : Type 0 where
  pub spots : List (Option Spot)
  pub lists : List (List ℕ)

-- the spot of an item
abbrev pub spot_at : Listing → ℕ → Option Spot
spot_at s r = slice_index_or s.spots r None

-- the number of the list that it is in
abbrev pub list_of : Listing → ℕ → Option ℕ
list_of s r = option_map (λ k. k.list) (spot_at s r)

-- the items of a list
abbrev pub list_at : Listing → ℕ → List ℕ
list_at s n = slice_index_or s.lists n []

-- a list has the items whose spots are in it, and no others, each once
pub record ListsMatchSpots (s : Listing) : Type 0 where
  pub listed : (n r : ℕ) → Among r (list_at s n) ↔ (list_of s r ≡ Some n)
  pub once : (n : ℕ) → NoRepeat (list_at s n)

-- wherever r stands in a list, this follows it
abbrev pub FollowsInList : Listing → ℕ → Option ℕ → Type 0
FollowsInList s r next =
    (n : ℕ) (earlier later : List ℕ) → list_at s n ≡ earlier ++ r ∷ later → next ≡ head later

-- this many empty lists, and this many items that are in none
abbrev pub unlisted : ℕ → ℕ → Listing
unlisted lists items = record { spots = replicate items None; lists = replicate lists [] }

-- with r at this spot, and first in the list of the spot
abbrev pub given : Listing → Spot → ℕ → Listing
given s spot r = record { spots = slice_set s.spots r (Some spot); lists = slice_set s.lists spot.list (r ∷ list_at s spot.list) }

-- with r in no list
abbrev pub freed : Listing → ℕ → Listing
freed s r = record { spots = slice_set s.spots r None; lists = map (without r) s.lists }
