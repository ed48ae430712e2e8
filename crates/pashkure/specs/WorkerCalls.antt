-- What the calls of a worker do: each what the call of a worker of mm_thin does, whole, and its answer as a number.
use Rattle.std.specs.Prelude.{◌≡◌, ℕ, Bool, List}
use Rattle.mm_thin.specs.declared.reply.GiveUp.{GiveUp}
use Rattle.mm_thin.specs.declared.reply.Take.{Take}
use Rattle.mm_thin.specs.Calls.{GivesAllBack, GivesBack, TakesName}
use Rattle.mm_thin.specs.Parts.{WorkerState}
use Rattle.pashkure.specs.DeskAnswer.{take_number, given_number, left_number}
use Rattle.pashkure.specs.WorkerOwning.{worker_word}
use Rattle.pashkure.specs.declared.worker_handle.WorkerHandle.{WorkerHandle}

-- the handle has a worker
abbrev pub HasWorker : WorkerHandle → Type 0
HasWorker h = h.state ≡ worker_word

abbrev pub TellsTake : WorkerState → List ℕ → ℕ → WorkerState → Type 0
TellsTake old name told new = (answer : Take) × (told ≡ take_number answer) × TakesName old name answer new

abbrev pub TellsGiveBack : WorkerState → List ℕ → ℕ → WorkerState → Type 0
TellsGiveBack old name told new = (answer : GiveUp) × (told ≡ given_number answer) × GivesBack old name answer new

abbrev pub TellsGiveBackAll : WorkerState → ℕ → WorkerState → Type 0
TellsGiveBackAll old told new = (is_left : Bool) × (told ≡ left_number is_left) × GivesAllBack old is_left new
