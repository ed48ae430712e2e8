-- Where the numbers stand: in a list, under a part of the hash.
use Rattle.std.specs.Prelude.{ℕ, ◌*◌, ◌/◌, ◌%◌, ◌^◌, List}
use Rattle.mm_tagged_lists.specs.declared.spot.Spot.{Spot}
use Rattle.mm_names.specs.declared.spots.Spots.{Spots}
use Rattle.mm_names.specs.Hash.{hash_of}

-- the spot of a name
abbrev pub spot_of : Spots → List ℕ → Spot
spot_of s name =
    let hash = hash_of s.hash name in
    record { list = hash / 2 ^ 32 % 2 ^ 32 * s.lists / 2 ^ 32; tag = hash % 2 ^ 32 }
