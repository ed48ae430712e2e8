-- How a `Shelf` keeps what its processes have.
use Rattle.std.specs.Prelude.{ℕ, suc, List, [], ◌∷◌, Option, Some, None}
use Rattle.mm_arena.specs.declared.key.Key.{Key}
use Rattle.mm_arena.specs.declared.shelf.Stored.{Stored}
use Rattle.mm_arena.specs.Shelf.{Entries}

module _ {T : Type 0} where
  -- what this process has
  abbrev pub entry_of : ℕ → Option (Stored T) → Option (Key × T)
  entry_of process None = None
  entry_of process (Some s) = Some (record { process = process; generation = s.generation }, s.value)

  -- what the processes have, from this one on
  abbrev pub entries_from : ℕ → List (Option (Stored T)) → Entries T
  entries_from process [] = []
  entries_from process (s ∷ later) = entry_of process s ∷ entries_from (suc process) later

  -- what a contract sees of a shelf
  abbrev pub seen : List (Option (Stored T)) → Entries T
  seen kept = entries_from 0 kept
