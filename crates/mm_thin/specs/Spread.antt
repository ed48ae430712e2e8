-- To which bucket a name belongs.
use Rattle.std.specs.Prelude.{ℕ, ◌*◌, ◌/◌, ◌^◌, List}
use Rattle.mm_names.specs.Hash.{hash_of}
use Rattle.mm_thin.specs.declared.spread.Spread.{Spread}

abbrev pub bucket_by : Spread → List ℕ → ℕ
bucket_by spread name = hash_of spread.hash name * spread.buckets / 2 ^ 64
