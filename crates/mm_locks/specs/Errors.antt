-- Which refusal of the manager is which error, and which errors the calls may answer.
use Rattle.std.specs.Prelude.{◌≡◌, Bool, true, false}
use Rattle.mm_manager.specs.declared.refusal.Refusal.{Refusal}
use Rattle.mm_manager.specs.declared.refusal.Refusal.TheVariants as refused
use Rattle.mm_locks.specs.declared.error.LockError.{LockError}
use Rattle.mm_locks.specs.declared.error.LockError.TheVariants.{Deadlock, NameEmpty, NameTooLong, NotOwner, TransactionsFull, NamesFull, TooManyNames, LabelsFull, CountsFull, NotActive}

-- no refusal is `TimedOut` or `Deadlock`
abbrev pub error_of : Refusal → LockError
error_of refused.NameEmpty = NameEmpty
error_of refused.NameTooLong = NameTooLong
error_of refused.NotOwner = NotOwner
error_of refused.TransactionsFull = TransactionsFull
error_of refused.NamesFull = NamesFull
error_of refused.TooManyNames = TooManyNames
error_of refused.LabelsFull = LabelsFull
error_of refused.CountsFull = CountsFull
error_of refused.NoTransaction = NotActive
error_of refused.Waiting = NotActive
error_of refused.NotWaiting = NotActive

-- the manager refuses a call for a reason that is this error
abbrev pub Because : (Refusal → Type 0) → LockError → Type 0
Because Refuses error = (refusal : Refusal) × Refuses refusal × (error ≡ error_of refusal)

-- ---- the errors of each call

-- of a request for a name, but for a time that is up
abbrev pub of_lock : LockError → Bool
of_lock Deadlock = true
of_lock NameEmpty = true
of_lock NameTooLong = true
of_lock NamesFull = true
of_lock TooManyNames = true
of_lock LabelsFull = true
of_lock CountsFull = true
of_lock NotActive = true
of_lock error = false

-- of a try for a name, which never waits and needs no label
abbrev pub of_try : LockError → Bool
of_try Deadlock = false
of_try LabelsFull = false
of_try error = of_lock error

-- of `unlock`
abbrev pub of_unlock : LockError → Bool
of_unlock NameEmpty = true
of_unlock NameTooLong = true
of_unlock NotOwner = true
of_unlock NotActive = true
of_unlock error = false

-- of `commit`
abbrev pub of_commit : LockError → Bool
of_commit NotActive = true
of_commit error = false
