-- What a `Shelf` ends as when a `&mut` to one of its values is returned.
use Rattle.std.specs.Prelude.{ℕ, Option, Some, slice_set}
use Rattle.std.specs.Borrow.{Lends, LendsIf, Fml, RattleType, MutBor}
use Rattle.mm_arena.specs.declared.key.Key.{Key}
use Rattle.mm_arena.specs.Shelf.{Entries, with_stored}
use Rattle.mm_arena.specs.contracts.shelf.Shelf.{the_row}

module _ (T : RattleType) (s : MutBor (Entries T.Denot)) (key : Key) where
  -- once the borrow r ends, the key has the last value written through r
  abbrev pub lends_value : MutBor T.Denot → Fml
  lends_value r = Lends (the_row T) T s r (λ value. slice_set s.now key.process (Some (key, value)))

  -- the same if r is a reference, and at `None` the shelf stays as it is
  abbrev pub lends_get : Option (MutBor T.Denot) → Fml
  lends_get r = LendsIf (the_row T) T s r (λ value. slice_set s.now key.process (Some (key, value))) s.now

module _ (T : RattleType) (s : MutBor (Entries T.Denot)) (process : ℕ) where
  -- once the borrow r ends, the process has the last value written through r, under the key that it had
  abbrev pub lends_stored : MutBor T.Denot → Fml
  lends_stored r = Lends (the_row T) T s r (with_stored s.now process)
