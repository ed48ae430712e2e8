-- What an `Arena` ends as when a `&mut` to one of its values is returned.
use Rattle.std.specs.Prelude.{Option}
use Rattle.std.specs.Borrow.{Lends, LendsIf, Fml, RattleType, MutBor}
use Rattle.mm_arena.specs.declared.key.Key.{Key}
use Rattle.mm_arena.specs.Slots.{Slots, with_value}
use Rattle.mm_arena.specs.contracts.arena.Arena.{the_row}

module _ (T : RattleType) (s : MutBor (Slots T.Denot)) (key : Key) where
  -- once the borrow r ends, the key has the last value written through r
  abbrev pub lends_value : MutBor T.Denot → Fml
  lends_value r = Lends (the_row T) T s r (with_value s.now key)

  -- the same if r is a reference, and at `None` the arena stays as it is
  abbrev pub lends_get : Option (MutBor T.Denot) → Fml
  lends_get r = LendsIf (the_row T) T s r (with_value s.now key) s.now
