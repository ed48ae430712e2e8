-- What a `Shelf` ends as when a `&mut` to what it keeps of a process is returned.
use Rattle.std.specs.Prelude.{ℕ, Some, slice_set}
use Rattle.std.specs.Borrow.{Lends, Fml, RattleType, MutBor}
use Rattle.mm_arena.specs.declared.shelf.Stored.{Stored}
use Rattle.mm_arena.specs.Shelf.{Entries}
use Rattle.mm_arena.specs.private.Stored.{entry_of}
use Rattle.mm_arena.specs.contracts.shelf.Shelf.{the_row}
use Rattle.mm_arena.specs.contracts.shelf.Stored.{the_row as stored_row}

module _ (T : RattleType) (s : MutBor (Entries T.Denot)) (process : ℕ) where
  -- once the borrow r ends, this process has what r points to
  abbrev pub lends_kept : MutBor (Stored T.Denot) → Fml
  lends_kept r = Lends (the_row T) (stored_row T) s r (λ stored. slice_set s.now process (entry_of process (Some stored)))
