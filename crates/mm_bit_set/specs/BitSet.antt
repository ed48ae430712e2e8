-- Sets of numbers below a bound, as lists of Bool.
use Rattle.std.specs.Prelude.{◌≡◌, ◌≤◌, ◌<◌, ℕ, Bool, true, false, List, length, filter, slice_index_or}
use Rattle.std.specs.List.{range_with_len}

-- n is a member
abbrev pub has : List Bool → ℕ → Bool
has set n = slice_index_or set n false

-- no number at or above this place is a member
abbrev pub HasNoneFrom : List Bool → ℕ → Type 0
HasNoneFrom set from = (k : ℕ) → from ≤ k → has set k ≡ false

-- n is the first member at or above this place
pub record IsNextMember (set : List Bool) (from n : ℕ) : Type 0 where
  pub at_least : from ≤ n
  pub member : has set n ≡ true
  pub first : (k : ℕ) → from ≤ k → k < n → has set k ≡ false

-- the members, in ascending order
abbrev pub members : List Bool → List ℕ
members set = filter (has set) (range_with_len 0 (length set))
