-- How the bytes of all names stand in one array.
use Rattle.std.specs.Prelude.{◌≡◌, ℕ, ◌*◌, ◌≤◌, List, [], ◌∷◌, length, take, drop, Option, None, Some, option_map, slice_index_or}
use Rattle.mm_names.specs.declared.config.TheConstants.NamesConfig.{MAX_NAMES, MAX_NAME_BYTES}
use Rattle.mm_names.specs.Names.{NameTable}

-- the names of these lengths, each at the head of a place of this many bytes, one place after the other
abbrev pub names_in : ℕ → List (Option ℕ) → List ℕ → List (Option (List ℕ))
names_in width [] bytes = []
names_in width (l ∷ ls) bytes = option_map (λ length. take length bytes) l ∷ names_in width ls (drop width bytes)

-- what a contract sees of the fields
abbrev pub seen : ℕ → List (Option ℕ) → List ℕ → NameTable
seen width lengths bytes = record { names = names_in width lengths bytes; name_bytes = width }

-- there is a place for each number, and each name is in its place
pub record ArePlaced (width : ℕ) (lengths : List (Option ℕ)) (bytes : List ℕ) : Type 0 where
  pub room : length bytes ≡ length lengths * width
  pub numbers : (1 ≤ length lengths) × (length lengths ≤ MAX_NAMES)
  pub wide : (1 ≤ width) × (width ≤ MAX_NAME_BYTES)
  pub fits : (n l : ℕ) → slice_index_or lengths n None ≡ Some l → (1 ≤ l) × (l ≤ width)
