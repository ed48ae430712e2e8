-- How numbers keep how many items each list has.
use Rattle.std.specs.Prelude.{◌≡◌, ℕ, List, length, slice_index_or}
use Rattle.mm_tagged_lists.specs.TaggedLists.{Listing, list_at}

-- there is one number for each list, which is its length
pub record AreCounted (s : Listing) (lens : List ℕ) : Type 0 where
  pub as_many : length lens ≡ length s.lists
  pub each : (n : ℕ) → slice_index_or lens n 0 ≡ length (list_at s n)
