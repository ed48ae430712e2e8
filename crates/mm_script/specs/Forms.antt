-- The calls that a line can make: a word, and what follows it.
use Rattle.std.specs.Prelude.{option_map, ℕ, ◌-◌, ◌^◌, List, [], ◌∷◌, Option, Some, None, codes}
use Rattle.std.specs.Map.{lookup}
use Rattle.std.specs.Str.{bytes_eq}
use Rattle.mm_arena.specs.declared.key.Key.{Key}
use Rattle.mm_lines.specs.Words.{◌>>=◌, number_at_most, key_of}
use Rattle.mm_script.specs.declared.line.Call.{Call}
use Rattle.mm_script.specs.declared.line.Call.TheVariants as calls
use Rattle.mm_script.specs.declared.line.Header.{Header}
use Rattle.mm_script.specs.declared.line.Header.TheVariants as headers

-- P R L G: the call that opens a table by this header
abbrev pub table_call : Header → List (List ℕ) → Option Call
table_call header (p ∷ r ∷ l ∷ g ∷ []) = do
  processes ← number_at_most (2 ^ 32 - 1) p
  resources ← number_at_most (2 ^ 32 - 1) r
  label_limit ← number_at_most (2 ^ 64 - 1) l
  generation_limit ← number_at_most (2 ^ 32 - 1) g
  Some (calls.Table header (record { processes = processes; resources = resources; label_limit = label_limit; generation_limit = generation_limit }))
table_call _ _ = None

-- nothing: this call
abbrev pub alone : Call → List (List ℕ) → Option Call
alone call [] = Some call
alone _ _ = None

-- K: this call of a key
abbrev pub with_key : (Key → Call) → List (List ℕ) → Option Call
with_key call (k ∷ []) = option_map call (key_of k)
with_key _ _ = None

-- K r: this call of a key and a resource
abbrev pub with_key_and_resource : (Key → ℕ → Call) → List (List ℕ) → Option Call
with_key_and_resource call (k ∷ r ∷ []) = do
  key ← key_of k
  resource ← number_at_most (2 ^ 32 - 1) r
  Some (call key resource)
with_key_and_resource _ _ = None

-- r: this call of a resource
abbrev pub with_resource : (ℕ → Call) → List (List ℕ) → Option Call
with_resource call (r ∷ []) = option_map call (number_at_most (2 ^ 32 - 1) r)
with_resource _ _ = None

-- each word that calls, with what follows it
abbrev pub forms : List (List ℕ × (List (List ℕ) → Option Call))
forms =
    (codes "table", table_call headers.Table)
    ∷ (codes "table2", table_call headers.Table2)
    ∷ (codes "begin", alone calls.Begin)
    ∷ (codes "acquire", with_key_and_resource calls.Acquire)
    ∷ (codes "release", with_key_and_resource calls.Release)
    ∷ (codes "finish", with_key calls.Finish)
    ∷ (codes "transmit", with_key calls.Transmit)
    ∷ (codes "detect", with_key calls.Detect)
    ∷ (codes "abort", with_key calls.Abort)
    ∷ (codes "give_up", with_key calls.GiveUp)
    ∷ (codes "settle", alone calls.Settle)
    ∷ (codes "state", with_key calls.State)
    ∷ (codes "owner", with_resource calls.Owner)
    ∷ (codes "totals", alone calls.Totals)
    ∷ []

-- the call that a word makes with these arguments
abbrev pub call_of : List ℕ → List (List ℕ) → Option Call
call_of word arguments = do
  form ← lookup (bytes_eq word) forms
  form arguments
