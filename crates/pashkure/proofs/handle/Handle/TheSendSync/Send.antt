-- A handle may go to another thread, since a lock manager may.
use mathlib.Core.Bool.{true, false}
use mir.Raw.{raw}
use base.Shift.{Keyless}
use denote.Memory.{lone}
use denote.RawPtr.{Ptr}
use denote.Struct.Struct.{exits_of}
use denote.Struct.Owning.{shape, fields, to}
use denote.Param.Send.{IsSend, AllSend, owning_send, struct_send, sendable}
use Rattle.std.proofs.Crossing.{frees}
use Rattle.std_alloc.proofs.SendSync.{quiet, lies}
use Rattle.mm_manager.specs.LockState.{LockState}
use Rattle.mm_manager.specs.contracts.manager.LockManager as Manager
use Rattle.mm_manager.proofs.manager.LockManager.TheSendSync.{the_send as manager}
use Rattle.pashkure.specs.Owning.{heap, open_word, owned_if}
use Rattle.pashkure.specs.contracts.handle.Handle.{the_row, the_type}
use Rattle.std.specs.Prelude.{Bool, nat_eq}

keyless : (y : Bool) (p : Ptr) (m : LockState) → Keyless (owned_if y p m)
keyless true p m = (lies Manager.the_row manager p m, frees.frees heap (raw (lone Manager.the_row.mir)) p)
keyless false p m = tt

pub send : IsSend the_row
send =
    let all : AllSend (fields the_type) = search sendable in
    owning_send the_type all (λ d. keyless (nat_eq d.state open_word) d.at d.locks)
    (λ k. quiet (to the_type) (exits_of k (fields the_type)) ((struct_send (shape the_type) all).leaving k))
