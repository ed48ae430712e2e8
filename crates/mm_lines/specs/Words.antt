-- The words of a line, and the numbers and keys that they spell.
use Rattle.std.specs.Prelude.{ℕ, ◌-◌, ◌^◌, Bool, ◌&&◌, not, List, length, Option, Some, None, option_and_then, filter, nat_eq, nat_le, if◌then◌else◌}
use Rattle.std.specs.List.{slice_split, before_first, after_first}
use Rattle.std.specs.Str.{all_ascii_digits}
use Rattle.std.specs.Str.Parse.{digits_value}
use Rattle.mm_lines.specs.Cut.{is}
use Rattle.mm_arena.specs.declared.key.Key.{Key}

-- what to do with a value, if there is one
infixl 10 ◌>>=◌
abbrev pub ◌>>=◌ : {A B : Type 0} → Option A → (A → Option B) → Option B
o >>= f = option_and_then f o

abbrev pub is_word : List ℕ → Bool
is_word piece = not (nat_eq (length piece) 0)

-- the pieces between spaces that are not empty
abbrev pub words_of : List ℕ → List (List ℕ)
words_of line = filter is_word (slice_split (is 0x20) line)

-- 1 to 20 decimal digits
abbrev pub is_number : List ℕ → Bool
is_number word = all_ascii_digits word && nat_le 1 (length word) && nat_le (length word) 20

-- the number that a word spells, if that is at most `most`
abbrev pub number_at_most : ℕ → List ℕ → Option ℕ
number_at_most most word = if is_number word && nat_le (digits_value 10 word) most then Some (digits_value 10 word) else None

-- the key that a word spells: a number before the first dot, and one after it
abbrev pub key_of : List ℕ → Option Key
key_of word = do
  process ← number_at_most (2 ^ 32 - 1) (before_first (is 0x2e) word)
  generation ← number_at_most (2 ^ 32 - 1) (after_first (is 0x2e) word)
  Some (record { process = process; generation = generation })
