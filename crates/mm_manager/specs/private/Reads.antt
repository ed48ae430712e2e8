-- What is read of a status.
use Rattle.std.specs.Prelude.{[]}
use Rattle.mm_rules.specs.TableState.{TableState}
use Rattle.mm_manager.specs.LockState.{LockState}
use Rattle.mm_manager.specs.private.Numbers.{bare}

-- a manager of this table, without names
abbrev pub unnamed : TableState → LockState
unnamed s = bare s (record { names = []; name_bytes = 0 })
