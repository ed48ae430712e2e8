-- A handle whose worker is lent ends with the worker as it was left.
use Rattle.std.specs.Borrow.{Lends, MutBor, Fml}
use Rattle.mm_thin.specs.Parts.{WorkerState}
use Rattle.mm_thin.specs.contracts.worker.Worker.{the_row as worker_row}
use Rattle.pashkure.specs.declared.worker_handle.WorkerHandle.{WorkerHandle}
use Rattle.pashkure.specs.contracts.worker_handle.WorkerHandle.{the_row}

abbrev pub with_state : WorkerHandle → WorkerState → WorkerHandle
with_state h m = record h { held = m }

abbrev pub LendsWorker : MutBor WorkerHandle → MutBor WorkerState → Fml
LendsWorker h r = Lends the_row worker_row h r (with_state h.now)
