-- Which numbers stand for which answer. No two answers of a call have one number.
use Rattle.std.specs.Prelude.{ℕ, Result, Ok, Err}
use Rattle.mm_arena.specs.declared.key.Key.{Key}
use Rattle.mm_manager.specs.declared.refusal.Refusal.{Refusal}
use Rattle.mm_manager.specs.declared.refusal.Refusal.TheVariants as refused
use Rattle.mm_manager.specs.declared.reply.Lock.{Lock}
use Rattle.mm_manager.specs.declared.reply.Lock.TheVariants as lock
use Rattle.mm_manager.specs.declared.reply.Status.{Status}
use Rattle.mm_manager.specs.declared.reply.Status.TheVariants as status
use Rattle.mm_manager.specs.declared.reply.TryLock.{TryLock}
use Rattle.mm_manager.specs.declared.reply.TryLock.TheVariants as tried

abbrev pub refusal_number : Refusal → ℕ
refusal_number refused.NoTransaction = 16
refusal_number refused.Waiting = 18
refusal_number refused.NotWaiting = 19
refusal_number refused.NameEmpty = 20
refusal_number refused.NameTooLong = 21
refusal_number refused.NotOwner = 22
refusal_number refused.TransactionsFull = 23
refusal_number refused.NamesFull = 24
refusal_number refused.LabelsFull = 25
refusal_number refused.CountsFull = 26
refusal_number refused.TooManyNames = 28

abbrev pub begin_number : Result Key Refusal → ℕ
begin_number (Ok k) = 0
begin_number (Err refusal) = refusal_number refusal

abbrev pub lock_number : Result Lock Refusal → ℕ
lock_number (Ok lock.Granted) = 0
lock_number (Ok lock.Held) = 1
lock_number (Ok (lock.Waits h)) = 2
lock_number (Ok (lock.Deadlock h)) = 3
lock_number (Err refusal) = refusal_number refusal

abbrev pub try_number : Result TryLock Refusal → ℕ
try_number (Ok tried.Granted) = 0
try_number (Ok tried.Held) = 1
try_number (Ok (tried.Busy h)) = 4
try_number (Err refusal) = refusal_number refusal

abbrev pub done_number : Result (Unit {0}) Refusal → ℕ
done_number (Ok done) = 0
done_number (Err refusal) = refusal_number refusal

abbrev pub status_number : Status → ℕ
status_number status.Active = 0
status_number (status.Waiting n h) = 2
