-- What a contract sees of a `Names`. A name is a list of bytes.
use Rattle.std.specs.Prelude.{◌≡◌, ℕ, ◌<◌, ◌≤◌, ◌⊎◌, List, length, Option, None, Some, IsSome, replicate, slice_index_or, slice_set}
use Rattle.mm_names.specs.declared.config.NamesConfig.{NamesConfig}
use Rattle.mm_names.specs.declared.config.TheConstants.NamesConfig.{MAX_NAMES, MAX_NAME_BYTES}

-- by number its name, or none, and how many bytes a name may have
pub record NameTable : Type 0 where
  pub names : List (Option (List ℕ))
  pub name_bytes : ℕ

-- the name of a number
abbrev pub name_of : NameTable → ℕ → Option (List ℕ)
name_of t n = slice_index_or t.names n None

-- this many numbers, none of which has a name
abbrev pub nameless : ℕ → ℕ → NameTable
nameless numbers name_bytes = record { names = replicate numbers None; name_bytes = name_bytes }

-- with this name, or none, for a number
abbrev pub with_name : NameTable → ℕ → Option (List ℕ) → NameTable
with_name t n name = record t { names = slice_set t.names n name }

-- it has from 1 to `name_bytes` bytes
pub record CanBeName (t : NameTable) (name : List ℕ) : Type 0 where
  pub some : 1 ≤ length name
  pub short : length name ≤ t.name_bytes

-- some number has this name
abbrev pub IsNamed : NameTable → List ℕ → Type 0
IsNamed t name = (n : ℕ) × (name_of t n ≡ Some name)

-- there is this number, and it has no name
abbrev pub IsFree : NameTable → ℕ → Type 0
IsFree t n = (n < length t.names) × (name_of t n ≡ None)

-- each number has a name
abbrev pub IsFull : NameTable → Type 0
IsFull t = (n : ℕ) → n < length t.names → IsSome (name_of t n)

-- it can be a name and is none yet, and each number has one
pub record IsRefusedAsFull (t : NameTable) (name : List ℕ) : Type 0 where
  pub possible : CanBeName t name
  pub new : ¬ IsNamed t name
  pub full : IsFull t

-- n has the name already and nothing changes; or the name is new, n was free, and n has it from now on
abbrev pub Interns : NameTable → List ℕ → ℕ → NameTable → Type 0
Interns old name n new =
    ((name_of old n ≡ Some name) × (new ≡ old))
    ⊎ (¬ IsNamed old name × IsFree old n × (new ≡ with_name old n (Some name)))

-- each name has from 1 to `name_bytes` bytes, and there are as many numbers and bytes as a configuration may ask for
pub record IsInRange (t : NameTable) : Type 0 where
  pub lengths : (n : ℕ) (name : List ℕ) → name_of t n ≡ Some name → CanBeName t name
  pub numbers : (1 ≤ length t.names) × (length t.names ≤ MAX_NAMES)
  pub bytes : (1 ≤ t.name_bytes) × (t.name_bytes ≤ MAX_NAME_BYTES)

-- what holds of any names that a caller can hold: no two numbers have one name, and all is in range
pub record IsLawful (t : NameTable) : Type 0 where
  pub distinct : (m n : ℕ) (name : List ℕ) → name_of t m ≡ Some name → name_of t n ≡ Some name → m ≡ n
  pub in_range : IsInRange t

-- there are to be no numbers, or too many
abbrev pub IsNamesOut : NamesConfig → Type 0
IsNamesOut config = (config.names ≡ 0) ⊎ (MAX_NAMES < config.names)

-- a name is to have no bytes, or too many
abbrev pub IsNameBytesOut : NamesConfig → Type 0
IsNameBytesOut config = (config.name_bytes ≡ 0) ⊎ (MAX_NAME_BYTES < config.name_bytes)
