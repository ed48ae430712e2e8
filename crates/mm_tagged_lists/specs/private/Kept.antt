-- How a link and a number keep a spot or none.
use Rattle.std.specs.Prelude.{ℕ, Option}
use Rattle.std.specs.Option.{option_map}
use Rattle.mm_tagged_lists.specs.declared.spot.Spot.{Spot}

-- the spot in this list, if there is one, with this tag
abbrev pub kept_spot : Option ℕ → ℕ → Option Spot
kept_spot list tag = option_map (λ n. record { list = n; tag = tag }) list
