-- A handle may go to another thread, since a worker may.
use mathlib.Core.Bool.{true, false}
use mir.Raw.{raw}
use base.Shift.{Keyless}
use denote.Memory.{lone}
use denote.RawPtr.{Ptr}
use denote.Struct.Struct.{exits_of}
use denote.Struct.Owning.{shape, fields, to}
use denote.Param.Send.{IsSend, AllSend, owning_send, struct_send, sendable}
use Rattle.std.proofs.Crossing.{frees}
use Rattle.std_alloc.proofs.SendSync.{quiet, lies}
use Rattle.mm_thin.specs.Parts.{WorkerState}
use Rattle.mm_thin.specs.contracts.worker.Worker as Worker
use Rattle.mm_thin.proofs.worker.Worker.TheSendSync.{the_send as worker}
use Rattle.pashkure.specs.Owning.{heap}
use Rattle.pashkure.specs.WorkerOwning.{worker_word, owned_if}
use Rattle.pashkure.specs.contracts.worker_handle.WorkerHandle.{the_row, the_type}
use Rattle.std.specs.Prelude.{Bool, nat_eq}

keyless : (y : Bool) (p : Ptr) (m : WorkerState) → Keyless (owned_if y p m)
keyless true p m = (lies Worker.the_row worker p m, frees.frees heap (raw (lone Worker.the_row.mir)) p)
keyless false p m = tt

pub send : IsSend the_row
send =
    let all : AllSend (fields the_type) = search sendable in
    owning_send the_type all (λ d. keyless (nat_eq d.state worker_word) d.at d.held)
    (λ k. quiet (to the_type) (exits_of k (fields the_type)) ((struct_send (shape the_type) all).leaving k))
