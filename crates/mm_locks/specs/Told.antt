-- What a call tells: how the session's view of the history grows.
use Rattle.std.specs.Prelude.{◌≡◌, ◌⊎◌, ℕ, List, [], ◌∷◌, ◌++◌, map, replicate, Bool, false, Option, Some, None, Result, Ok, Err}
use Rattle.std.specs.Borrow.{Bor}
use Rattle.mm_tied.specs.History.{Extends, Goes}
use Rattle.mm_tied.specs.Mutex.{opened}
use Rattle.mm_locks.specs.declared.error.LockError.{LockError}
use Rattle.mm_thin.specs.Calls.{AreIdleFrom, GivesBack, HasTaken}
use Rattle.mm_thin.specs.declared.reply.GiveUp.TheVariants.{Done}
use Rattle.mm_locks.specs.History.{Makes}
use Rattle.mm_locks.specs.Calls.{done_of}
use Rattle.mm_locks.specs.declared.history.Event.{Event}
use Rattle.mm_locks.specs.declared.history.Found.{Found}
use Rattle.mm_locks.specs.declared.history.Found.TheVariants as found
use Rattle.mm_locks.specs.declared.history.Event.TheVariants.{Asked, Tried, Looked, TookBack, Unlocked, Ended}
use Rattle.mm_locks.specs.declared.session.Session.{Session}
use Rattle.mm_locks.specs.declared.tokens.Granted.{Granted}

-- this event some times, and then that one
abbrev pub times_then : ℕ → Event → Event → List Event
times_then n each last = replicate n each ++ last ∷ []

module _ {R : Type 0} where
  -- of the same worker, locks and pass
  abbrev pub IsSame : Session R → Session R → Type 0
  IsSame old new = (new.worker.at ≡ old.worker.at) × (new.locks ≡ old.locks) × (new.pass.id ≡ old.pass.id)

  -- the history is extended by this event alone
  abbrev pub Tells : Session R → Event → Session R → Type 0
  Tells old e new = Extends Makes ((opened old.locks.now.hall).desk) old.pass.id old.pass.me.0 (e ∷ []) new.pass.me.0

  -- the history has these events more, and no others of the session's
  abbrev pub TellsAll : Session R → List Event → Session R → Type 0
  TellsAll old es new = Goes Makes ((opened old.locks.now.hall).desk) old.pass.id old.pass.me.0 es new.pass.me.0

  -- the one event some times, and then the other
  abbrev pub TellsThen : Session R → Event → Event → Session R → Type 0
  TellsThen old each last new = (n : ℕ) × TellsAll old (times_then n each last) new

  -- nothing is told
  abbrev pub TellsNothing : Session R → Session R → Type 0
  TellsNothing old new = new.pass.me.0 ≡ old.pass.me.0

  -- the worker has taken the name by itself, and nothing is told
  abbrev pub HasTakenAlone : Session R → List ℕ → Session R → Type 0
  HasTakenAlone old name new = HasTaken new.worker.records name × TellsNothing old new

-- the event of a name that is given back, if the worker did not do it by itself
abbrev pub unlocked : ℕ → List ℕ → Option (Result (Unit {0}) LockError) → List Event
unlocked at name (Some answer) = Unlocked at name answer ∷ []
unlocked at name None = []

-- what the desk answered a request that a `lock` returns so
abbrev pub owning : Result Granted LockError → Result Found LockError
owning (Ok granted) = Ok found.Owns
owning (Err error) = Err error

-- and one that a `try_lock` returns so
abbrev pub owning_or_not : Result (Option Granted) LockError → Result Found LockError
owning_or_not (Ok (Some granted)) = Ok found.Owns
owning_or_not (Ok None) = Ok found.Waits
owning_or_not (Err error) = Err error

-- the bytes of each name
abbrev pub bytes_of : List (Bor (List ℕ)) → List (List ℕ)
bytes_of names = map (λ name. name.now) names

-- why names were refused, if they were
abbrev pub refusal_of : {T : Type 0} → Result T LockError → Option LockError
refusal_of (Ok value) = None
refusal_of (Err error) = Some error

module _ {R : Type 0} where
  -- the desk is asked again each time that a bucket changed meanwhile, and then answers this
  abbrev pub AsksUntil : Session R → List ℕ → Result Found LockError → Session R → Type 0
  AsksUntil old name answer new = TellsThen old (Asked old.worker.at name (Ok found.Again)) (Asked old.worker.at name answer) new

  -- the same of a try
  abbrev pub TriesUntil : Session R → List ℕ → Result Found LockError → Session R → Type 0
  TriesUntil old name answer new = TellsThen old (Tried old.worker.at name (Ok found.Again)) (Tried old.worker.at name answer) new

  -- the desk is looked at for as long as the transaction waits, and then this is told
  abbrev pub LooksUntil : Session R → List ℕ → Event → Session R → Type 0
  LooksUntil old name last new = TellsThen old (Looked old.worker.at name (Ok found.Waits)) last new

  -- the desk is asked until no bucket changed meanwhile, and answers `Waits`; then it is looked at for as long as the transaction waits, and then this is told
  abbrev pub WaitsUntil : Session R → List ℕ → Event → Session R → Type 0
  WaitsUntil old name last new =
      (n k : ℕ) × TellsAll old (times_then n (Asked old.worker.at name (Ok found.Again)) (Asked old.worker.at name (Ok found.Waits)) ++ times_then k (Looked old.worker.at name (Ok found.Waits)) last) new

  -- ---- the calls of a transaction

  -- `try_lock`: the worker has taken the name by itself, or the desk answered this
  abbrev pub TriesSo : Session R → List ℕ → Result (Option Granted) LockError → Session R → Type 0
  TriesSo old name result new = ((granted : Granted) × (result ≡ Ok (Some granted)) × HasTakenAlone old name new) ⊎ TriesUntil old name (owning_or_not result) new

  -- the beginning of a `lock`, where none is one that waits: the worker has taken the name by itself, or the desk answered this
  abbrev pub BeginsSo : Session R → List ℕ → Result (Option Granted) LockError → Session R → Type 0
  BeginsSo old name result new = ((granted : Granted) × (result ≡ Ok (Some granted)) × HasTakenAlone old name new) ⊎ AsksUntil old name (owning_or_not result) new

  -- `lock`: the worker has taken the name by itself; or the desk answered this at once; or the transaction waited, and this was found then
  abbrev pub LocksSo : Session R → List ℕ → Result Granted LockError → Session R → Type 0
  LocksSo old name result new =
      ((granted : Granted) × (result ≡ Ok granted) × HasTakenAlone old name new) ⊎ AsksUntil old name (owning result) new ⊎ WaitsUntil old name (Looked old.worker.at name (owning result)) new

  -- `lock_all`: `lock` of these names one after another, up to the first one that is refused
  abbrev pub LocksEachSo : Session R → List (List ℕ) → Option LockError → Session R → Type 0
  LocksEachSo old [] refused new = (refused ≡ None) × (new ≡ old)
  LocksEachSo old (name ∷ names) refused new =
      ((mid : Session R) × (granted : Granted) × LocksSo old name (Ok granted) mid × LocksEachSo mid names refused new)
      ⊎ ((error : LockError) × (refused ≡ Some error) × LocksSo old name (Err error) new)

  -- `lock_for`: what `lock` tells; or the transaction waited, and its request was taken back with this answer
  abbrev pub LocksForSo : Session R → List ℕ → Result Granted LockError → Session R → Type 0
  LocksForSo old name result new = LocksSo old name result new ⊎ WaitsUntil old name (TookBack old.worker.at name (done_of result)) new

  -- `unlock`: the worker gave the name back by itself, and nothing is told; or the desk was asked to hand it over, and answered this
  abbrev pub UnlocksSo : Session R → List ℕ → Result (Unit {0}) LockError → Session R → Type 0
  UnlocksSo old name result new =
      ((result ≡ Ok tt) × GivesBack old.worker name Done new.worker × TellsAll old [] new) ⊎ TellsAll old (Unlocked old.worker.at name result ∷ []) new

  -- `commit`: the manager does not know of the transaction, and its worker has nothing left; or portions of its names are handed over, and then it is ended with this answer
  abbrev pub CommitsSo : Bool → Session R → Result (Unit {0}) LockError → Session R → Type 0
  CommitsSo is_known old result new =
      ((is_known ≡ false) × (result ≡ Ok tt) × AreIdleFrom 0 new.worker.records × TellsNothing old new) ⊎ TellsThen old (Ended old.worker.at None) (Ended old.worker.at (Some result)) new

  -- whether the manager may know of the transaction: it may, or as before it does not, and is told nothing
  abbrev pub IsKnownIfTold : Bool → Session R → Bool → Session R → Type 0
  IsKnownIfTold was old is new = is ≡ false → (was ≡ false) × TellsNothing old new
