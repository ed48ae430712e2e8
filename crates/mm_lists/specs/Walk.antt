-- The part of a list that a walk has not passed, by numbers of its elements.
use Rattle.std.specs.Prelude.{ℕ, List, [], ◌∷◌, Option, Some, None, option_map, nat_eq, if◌then◌else◌}
use Rattle.mm_lists.specs.Members.{head}

module _ {X : Type 0} (number : X → ℕ) where
  -- the number of the first
  abbrev pub first_number : List X → Option ℕ
  first_number xs = option_map number (head xs)

  -- the part of a list from the element with this number on
  abbrev pub rest_from : List X → Option ℕ → List X
  rest_from xs None = []
  rest_from [] (Some n) = []
  rest_from (x ∷ xs) (Some n) = if nat_eq (number x) n then x ∷ xs else rest_from xs (Some n)
