-- A handle whose desk is lent ends with the desk as it was left.
use Rattle.std.specs.Borrow.{Lends, MutBor, Fml}
use Rattle.pashkure.specs.Hall.{HallState}
use Rattle.pashkure.specs.contracts.hall.Hall.{the_row as hall_row}
use Rattle.pashkure.specs.declared.desk_handle.DeskHandle.{DeskHandle}
use Rattle.pashkure.specs.contracts.desk_handle.DeskHandle.{the_row}

abbrev pub with_state : DeskHandle → HallState → DeskHandle
with_state h m = record h { held = m }

abbrev pub LendsHall : MutBor DeskHandle → MutBor HallState → Fml
LendsHall h r = Lends the_row hall_row h r (with_state h.now)
