-- How the counts are kept while several names change at once.
use Rattle.std.specs.Prelude.{◌≡◌, ◌≢◌, ◌<◌, ◌≤◌, ℕ, List, Option, None, length, slice_index, slice_index_or}

-- the name of a number
abbrev pub name_at : List (Option (List ℕ)) → ℕ → Option (List ℕ)
name_at names n = slice_index_or names n None

-- the first i of these numbers have no name, and all others have what they have in these names
pub record IsCut (names : List (Option (List ℕ))) (numbers : List ℕ) (i : ℕ) (mid : List (Option (List ℕ))) : Type 0 where
  pub size : length mid ≡ length names
  pub gone : (j : ℕ) → j < i → j < length numbers → name_at mid (slice_index numbers j) ≡ None
  pub same : (n : ℕ) → ((j : ℕ) → j < i → j < length numbers → slice_index numbers j ≢ n) → name_at mid n ≡ name_at names n

-- all but the first i of these numbers have no name, and all others have what they have in these names
pub record IsMended (names : List (Option (List ℕ))) (numbers : List ℕ) (i : ℕ) (mid : List (Option (List ℕ))) : Type 0 where
  pub size : length mid ≡ length names
  pub done : (j : ℕ) → j < i → j < length numbers → name_at mid (slice_index numbers j) ≡ name_at names (slice_index numbers j)
  pub left : (j : ℕ) → i ≤ j → j < length numbers → name_at mid (slice_index numbers j) ≡ None
  pub same : (n : ℕ) → ((j : ℕ) → j < length numbers → slice_index numbers j ≢ n) → name_at mid n ≡ name_at names n
