-- How many names of each bucket a lock manager has.
use Rattle.std.specs.Prelude.{◌≡◌, ◌<◌, ℕ, List, length, Option, Some, None, if◌then◌else◌, nat_eq, slice_index}
use Rattle.std.specs.List.{sum_by}
use Rattle.mm_manager.specs.LockState.{LockState}
use Rattle.mm_thin.specs.declared.spread.Spread.{Spread}
use Rattle.mm_thin.specs.Spread.{bucket_by}

-- 1 for a name of this bucket
abbrev pub in_bucket : Spread → ℕ → Option (List ℕ) → ℕ
in_bucket spread b None = 0
in_bucket spread b (Some name) = if nat_eq (bucket_by spread name) b then 1 else 0

-- how many names of a bucket there are
abbrev pub names_in : Spread → List (Option (List ℕ)) → ℕ → ℕ
names_in spread names b = sum_by (in_bucket spread b) names

-- each bucket has its count
abbrev pub AreCounted : Spread → List (Option (List ℕ)) → List ℕ → Type 0
AreCounted spread names counts = (length counts ≡ spread.buckets) × ((b : ℕ) → b < spread.buckets → slice_index counts b ≡ names_in spread names b)

-- what a contract sees of books
pub record BooksState : Type 0 where
  pub manager : LockState
  pub spread : Spread
