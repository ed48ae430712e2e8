-- Hints that are true of a table.
use Rattle.std.specs.Prelude.{◌≡◌, Some}
use Rattle.mm_rules.specs.TableState.{TableState, holder_of, public_of}
use Rattle.mm_board.specs.Hints.{IsKind}
use Rattle.mm_board.specs.declared.hint.Hint.{Hint}

-- the process waits for the holder, whose public label is greater or the same
pub record IsHintOf (s : TableState) (hint : Hint) : Type 0 where
  pub holder : holder_of s hint.process ≡ Some hint.holder
  pub kind : IsKind hint.kind (public_of s hint.process) (public_of s hint.holder)
