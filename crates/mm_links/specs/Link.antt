-- How a number keeps a place or none.
use Rattle.std.specs.Prelude.{ℕ, Option, None, Some, ◌==◌, if◌then◌else◌}

-- the number that keeps none, the greatest of a u32
abbrev pub none_number : ℕ
none_number = 4294967295

-- what a number keeps
abbrev pub meant : ℕ → Option ℕ
meant n = if n == none_number then None else Some n

-- the number that keeps this
abbrev pub number_of : Option ℕ → ℕ
number_of None = none_number
number_of (Some place) = place
