-- A handle whose manager is lent ends with the manager as it was left.
use Rattle.std.specs.Borrow.{Lends, MutBor, Fml}
use Rattle.mm_manager.specs.LockState.{LockState}
use Rattle.mm_manager.specs.contracts.manager.LockManager.{the_row as manager_row}
use Rattle.pashkure.specs.declared.handle.Handle.{Handle}
use Rattle.pashkure.specs.contracts.handle.Handle.{the_row}

abbrev pub with_state : Handle → LockState → Handle
with_state h m = record h { locks = m }

abbrev pub LendsManager : MutBor Handle → MutBor LockState → Fml
LendsManager h r = Lends the_row manager_row h r (with_state h.now)
