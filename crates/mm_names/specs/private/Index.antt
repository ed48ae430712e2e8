-- Which number stands in which list.
use Rattle.std.specs.Prelude.{◌≡◌, ◌↔◌, ℕ, ◌≤◌, ◌<◌, length, List, Some, option_map}
use Rattle.mm_lists.specs.Members.{Among, NoRepeat}
use Rattle.mm_tagged_lists.specs.TaggedLists.{Listing, spot_at}
use Rattle.mm_names.specs.declared.config.TheConstants.NamesConfig.{MAX_NAMES}
use Rattle.mm_names.specs.declared.spots.Spots.{Spots}
use Rattle.mm_names.specs.Names.{NameTable, name_of, IsFree}
use Rattle.mm_names.specs.private.Spots.{spot_of}

-- all numbers below this one, each once
pub record AreAll (numbers : ℕ) (free : List ℕ) : Type 0 where
  pub all : (n : ℕ) → Among n free ↔ (n < numbers)
  pub once : NoRepeat free

-- each number stands at the spot of its name, no name is that of two numbers, and the free ones are listed
pub record AreIndexed (t : NameTable) (index : Listing) (spots : Spots) (free : List ℕ) : Type 0 where
  pub few : length t.names ≤ MAX_NAMES
  pub size : length index.spots ≡ length t.names
  pub lists : length index.lists ≡ spots.lists
  pub spots_of : (n : ℕ) → spot_at index n ≡ option_map (spot_of spots) (name_of t n)
  pub distinct : (m n : ℕ) (name : List ℕ) → name_of t m ≡ Some name → name_of t n ≡ Some name → m ≡ n
  pub listed : (n : ℕ) → Among n free ↔ IsFree t n
  pub once : NoRepeat free
