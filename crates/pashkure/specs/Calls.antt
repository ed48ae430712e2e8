-- What the calls do: each what the call of a lock manager does, whole, and its answer as a number.
use Rattle.std.specs.Prelude.{◌≡◌, ℕ, List, Result, Ok, Err}
use Rattle.mm_arena.specs.declared.key.Key.{Key}
use Rattle.mm_manager.specs.LockState.{LockState}
use Rattle.mm_manager.specs.Made.{Begun, Locked, Tried, Unlocked, Committed, Aborted, Cancelled}
use Rattle.mm_manager.specs.declared.refusal.Refusal.{Refusal}
use Rattle.mm_manager.specs.declared.reply.Lock.{Lock}
use Rattle.mm_manager.specs.declared.reply.TryLock.{TryLock}
use Rattle.pashkure.specs.Answer.{begin_number, lock_number, try_number, done_number}
use Rattle.pashkure.specs.Owning.{open_word}
use Rattle.pashkure.specs.Plain.{plain_key}
use Rattle.pashkure.specs.declared.handle.Handle.{Handle}
use Rattle.pashkure.specs.declared.plain.PlainKey.{PlainKey}

-- the handle has a manager
abbrev pub IsOpen : Handle → Type 0
IsOpen h = h.state ≡ open_word

-- the key that a begin writes: that of the transaction, and nothing if it is refused
abbrev pub begun_key : Result Key Refusal → PlainKey → PlainKey
begun_key (Ok k) old = plain_key k
begun_key (Err refusal) old = old

abbrev pub TellsBegin : LockState → PlainKey → ℕ → PlainKey → LockState → Type 0
TellsBegin old written told key new = (answer : Result Key Refusal) × (told ≡ begin_number answer) × (key ≡ begun_key answer written) × Begun old answer new

abbrev pub TellsLock : LockState → Key → List ℕ → ℕ → LockState → Type 0
TellsLock old k name told new = (answer : Result Lock Refusal) × (told ≡ lock_number answer) × Locked old k name answer new

abbrev pub TellsTry : LockState → Key → List ℕ → ℕ → LockState → Type 0
TellsTry old k name told new = (answer : Result TryLock Refusal) × (told ≡ try_number answer) × Tried old k name answer new

abbrev pub TellsUnlock : LockState → Key → List ℕ → ℕ → LockState → Type 0
TellsUnlock old k name told new = (answer : Result (Unit {0}) Refusal) × (told ≡ done_number answer) × Unlocked old k name answer new

abbrev pub TellsCommit : LockState → Key → ℕ → LockState → Type 0
TellsCommit old k told new = (answer : Result (Unit {0}) Refusal) × (told ≡ done_number answer) × Committed old k answer new

abbrev pub TellsAbort : LockState → Key → ℕ → LockState → Type 0
TellsAbort old k told new = (answer : Result (Unit {0}) Refusal) × (told ≡ done_number answer) × Aborted old k answer new

abbrev pub TellsCancel : LockState → Key → ℕ → LockState → Type 0
TellsCancel old k told new = (answer : Result (Unit {0}) Refusal) × (told ≡ done_number answer) × Cancelled old k answer new
