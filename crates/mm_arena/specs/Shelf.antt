-- What a contract sees of a `Shelf`.
use Rattle.std.specs.Prelude.{ℕ, Bool, List, Option, Some, None, is_some, IsSome, ◌==◌, ◌&&◌, slice_index_or, slice_set, if◌then◌else◌}
use Rattle.std.specs.Option.{option_map}
use Rattle.mm_arena.specs.declared.key.Key.{Key}

-- what each process has: a value, and the key that it was put with
abbrev pub Entries : Type 0 → Type 0
Entries T = List (Option (Key × T))

-- whether two keys are the same
abbrev pub key_eq : Key → Key → Bool
key_eq j k = j.process == k.process && j.generation == k.generation

module _ {T : Type 0} where
  -- what a process has
  abbrev pub entry_at : Entries T → ℕ → Option (Key × T)
  entry_at s process = slice_index_or s process None

  -- a process has a value
  abbrev pub HasValue : Entries T → ℕ → Type 0
  HasValue s process = IsSome (entry_at s process)

  -- the value, if it was put with this very key
  abbrev pub value_under : Key → Option (Key × T) → Option T
  value_under key None = None
  value_under key (Some entry) = if key_eq entry.0 key then Some entry.1 else None

  -- the value under a key
  abbrev pub value_at : Entries T → Key → Option T
  value_at s key = value_under key (entry_at s key.process)

  -- without the value under a key, if there is one
  abbrev pub taken : Entries T → Key → Entries T
  taken s key = if is_some (value_at s key) then slice_set s key.process None else s

  -- with this value for a process that has one, under the key that it has
  abbrev pub with_stored : Entries T → ℕ → T → Entries T
  with_stored s process value = slice_set s process (option_map (λ entry. (entry.0, value)) (entry_at s process))
