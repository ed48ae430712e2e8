-- What a handle of a worker owns: an open one what a box of a worker owns, and another one nothing.
use Rattle.std.specs.Prelude.{ℕ, Bool, true, false}
use base.Fml.{Fml, ftrue}
use base.Stored.{Coded}
use denote.RawPtr.{Ptr}
use Rattle.std_alloc.specs.Box.Ownership.{box_owns}
use Rattle.mm_thin.specs.Parts.{WorkerState}
use Rattle.mm_thin.specs.contracts.worker.Worker.{the_row}
use Rattle.pashkure.specs.Owning.{chunk}

-- the word of an open handle
abbrev pub worker_word : ℕ
worker_word = 8097880497506447979

abbrev pub boxed : Ptr → WorkerState → Fml
boxed = box_owns chunk the_row

abbrev pub owned_if : Bool → Ptr → WorkerState → Fml
owned_if true p m = boxed p m
owned_if false p m = ftrue

abbrev pub state_coded : Coded WorkerState
state_coded = the_row.coded
