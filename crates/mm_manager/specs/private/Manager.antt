-- What holds of every lock manager.
use Rattle.std.specs.Prelude.{◌≤◌}
use Rattle.mm_manager.specs.LockState.{LockState}
use Rattle.mm_manager.specs.declared.manager.LockManager.TheInside.{Inside}
use Rattle.mm_manager.specs.Totals.{all_of}
use Rattle.mm_manager.specs.private.Handed.{IsSound, seen}
use Rattle.mm_manager.specs.private.Room.{LabelsAreCounted}

-- what a contract sees
abbrev pub state_of : Inside → LockState
state_of m = seen m.named m.tells m.totals m.names_each

-- its table and names are sound, the counts together are no more than the events, and each request that met another owner took two labels at the most
pub record IsManager (m : Inside) : Type 0 where
  pub sound : IsSound m.named
  pub counted : all_of m.totals ≤ m.named.table.table.totals.accepted
  pub labels : LabelsAreCounted m.named.table.table m.totals
