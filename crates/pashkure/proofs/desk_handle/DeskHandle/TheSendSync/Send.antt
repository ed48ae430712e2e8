-- A handle may go to another thread, since a desk may.
use mathlib.Core.Bool.{true, false}
use mir.Raw.{raw}
use base.Shift.{Keyless}
use denote.Memory.{lone}
use denote.RawPtr.{Ptr}
use denote.Struct.Struct.{exits_of}
use denote.Struct.Owning.{shape, fields, to}
use denote.Param.Send.{IsSend, AllSend, owning_send, struct_send, sendable}
use Rattle.std.proofs.Crossing.{frees}
use Rattle.std_alloc.proofs.SendSync.{quiet, lies}
use Rattle.pashkure.specs.Hall.{HallState}
use Rattle.pashkure.specs.contracts.hall.Hall as Hall
use Rattle.pashkure.proofs.hall.Hall.TheSendSync.{the_send as hall}
use Rattle.pashkure.specs.Owning.{heap}
use Rattle.pashkure.specs.DeskOwning.{desk_word, owned_if}
use Rattle.pashkure.specs.contracts.desk_handle.DeskHandle.{the_row, the_type}
use Rattle.std.specs.Prelude.{Bool, nat_eq}

keyless : (y : Bool) (p : Ptr) (m : HallState) → Keyless (owned_if y p m)
keyless true p m = (lies Hall.the_row hall p m, frees.frees heap (raw (lone Hall.the_row.mir)) p)
keyless false p m = tt

pub send : IsSend the_row
send =
    let all : AllSend (fields the_type) = search sendable in
    owning_send the_type all (λ d. keyless (nat_eq d.state desk_word) d.at d.held)
    (λ k. quiet (to the_type) (exits_of k (fields the_type)) ((struct_send (shape the_type) all).leaving k))
