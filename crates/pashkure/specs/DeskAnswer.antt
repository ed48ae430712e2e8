-- Which numbers stand for which answer of a desk and of a worker. No two answers of a call have one number.
use Rattle.std.specs.Prelude.{ℕ, Bool, true, false, Option, Some, None, Result, Ok, Err}
use Rattle.mm_manager.specs.declared.refusal.Refusal.{Refusal}
use Rattle.mm_desk.specs.declared.reply.Adopted.{Adopted}
use Rattle.mm_desk.specs.declared.reply.Adopted.TheVariants as adopted
use Rattle.mm_desk.specs.declared.reply.Asked.{Asked}
use Rattle.mm_desk.specs.declared.reply.Asked.TheVariants as asked
use Rattle.mm_desk.specs.declared.reply.Tried.{Tried}
use Rattle.mm_desk.specs.declared.reply.Tried.TheVariants as tried
use Rattle.mm_desk.specs.declared.reply.Unlocked.{Unlocked}
use Rattle.mm_desk.specs.declared.reply.Unlocked.TheVariants as unlocked
use Rattle.mm_thin.specs.declared.config.WorkerError.{WorkerError}
use Rattle.mm_thin.specs.declared.config.WorkerError.TheVariants as refused
use Rattle.mm_thin.specs.declared.reply.GiveUp.{GiveUp}
use Rattle.mm_thin.specs.declared.reply.GiveUp.TheVariants as given
use Rattle.mm_thin.specs.declared.reply.Take.{Take}
use Rattle.mm_thin.specs.declared.reply.Take.TheVariants as take
use Rattle.pashkure.specs.Answer.{refusal_number}

abbrev pub take_number : Take → ℕ
take_number take.Taken = 0
take_number take.Held = 1
take_number take.Busy = 4
take_number take.Fat = 13
take_number take.Full = 14
take_number take.NotThin = 15

abbrev pub given_number : GiveUp → ℕ
given_number given.Done = 0
given_number given.Changed = 12
given_number given.NotTaken = 7

-- whether something is left that a worker could not give back
abbrev pub left_number : Bool → ℕ
left_number false = 0
left_number true = 12

abbrev pub asked_number : Result Asked Refusal → ℕ
asked_number (Ok asked.Granted) = 0
asked_number (Ok asked.Held) = 1
asked_number (Ok (asked.Waits h)) = 2
asked_number (Ok (asked.Deadlock h)) = 3
asked_number (Ok asked.Again) = 12
asked_number (Err refusal) = refusal_number refusal

abbrev pub tried_number : Result Tried Refusal → ℕ
tried_number (Ok tried.Granted) = 0
tried_number (Ok tried.Held) = 1
tried_number (Ok (tried.Busy h)) = 4
tried_number (Ok tried.Again) = 12
tried_number (Err refusal) = refusal_number refusal

abbrev pub ended_number : Result Unlocked Refusal → ℕ
ended_number (Ok unlocked.Done) = 0
ended_number (Ok unlocked.NotLetGo) = 27
ended_number (Err refusal) = refusal_number refusal

-- of a name that the worker gave back by itself, or that the desk was asked to give back
abbrev pub unlocked_number : Option (Result Unlocked Refusal) → ℕ
unlocked_number None = 7
unlocked_number (Some answer) = ended_number answer

abbrev pub adopted_number : Adopted → ℕ
adopted_number adopted.Fat = 0
adopted_number adopted.Changed = 12
adopted_number (adopted.Refused refusal) = refusal_number refusal

abbrev pub worker_error_number : WorkerError → ℕ
worker_error_number refused.Full = 23
worker_error_number refused.Memory = 39
