-- What the two bytes of a length mean.
use Rattle.std.specs.Prelude.{ℕ, Option, None, Some, if◌then◌else◌, nat_eq}

-- 0 means that there is no name
abbrev pub meant : ℕ → Option ℕ
meant n = if nat_eq n 0 then None else Some n

abbrev pub number_of : Option ℕ → ℕ
number_of None = 0
number_of (Some n) = n
