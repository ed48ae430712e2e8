-- What the calls do to the desk behind the lock, by their answers.
use Rattle.std.specs.Prelude.{◌≡◌, ◌⊎◌, ◌↔◌, ◌<◌, ℕ, List, [], ◌∷◌, length, take, Option, Some, None, Result, Ok, Err, slice_get}
use Rattle.mm_arena.specs.declared.key.Key.{Key}
use Rattle.mm_desk.specs.Desk.{DeskState}
use Rattle.mm_desk.specs.Calls.{AsksAt, TriesAt, UnlocksAt, CommitsAt, AbortsAt, BeginsAt, CancelsAt}
use Rattle.mm_desk.specs.declared.reply.Asked.TheVariants as asked
use Rattle.mm_desk.specs.declared.reply.Tried.TheVariants as tried
use Rattle.mm_desk.specs.declared.reply.Unlocked.{Unlocked}
use Rattle.mm_desk.specs.declared.reply.Unlocked.TheVariants.{Done, NotLetGo}
use Rattle.mm_manager.specs.Reads.{HasStatus}
use Rattle.mm_manager.specs.declared.refusal.Refusal.{Refusal}
use Rattle.mm_manager.specs.declared.refusal.Refusal.TheVariants.{NoTransaction}
use Rattle.mm_manager.specs.declared.reply.Status.{Status}
use Rattle.mm_manager.specs.declared.reply.Status.TheVariants as status
use Rattle.mm_lists.specs.Members.{Among, NoRepeat}
use Rattle.mm_names.specs.Names.{name_of}
use Rattle.mm_rules.specs.TableState.{owner_of}
use Rattle.mm_locks.specs.Errors.{Because, error_of}
use Rattle.mm_locks.specs.declared.error.LockError.{LockError}
use Rattle.mm_locks.specs.declared.error.LockError.TheVariants.{Deadlock, NotActive, TimedOut}
use Rattle.mm_locks.specs.Granted.{OwnsAt}
use Rattle.mm_locks.specs.declared.hall.TheConstants.{PORTION}
use Rattle.mm_locks.specs.declared.hall.Outcome.{Outcome}
use Rattle.mm_locks.specs.declared.hall.Outcome.TheVariants as outcome
use Rattle.mm_locks.specs.declared.history.Found.{Found}
use Rattle.mm_locks.specs.declared.history.Found.TheVariants as found
use Rattle.mm_locks.specs.declared.tokens.Granted.{Granted}

-- what a request is told, without its token
abbrev pub found_of : Result Outcome LockError → Result Found LockError
found_of (Ok (outcome.Owns granted)) = Ok found.Owns
found_of (Ok outcome.Waits) = Ok found.Waits
found_of (Ok outcome.Again) = Ok found.Again
found_of (Err error) = Err error

-- the same of a request that is taken back
abbrev pub done_of : Result Granted LockError → Result (Unit {0}) LockError
done_of (Ok granted) = Ok tt
done_of (Err error) = Err error

-- a request: the transaction owns the name; or it waits, on no cycle of waits; or a bucket changed; or its wait would close a cycle, or it is refused
abbrev pub AsksFor : DeskState → ℕ → List ℕ → Result Found LockError → DeskState → Type 0
AsksFor old at name (Ok found.Owns) new = AsksAt old at name (Ok asked.Granted) new ⊎ AsksAt old at name (Ok asked.Held) new
AsksFor old at name (Ok found.Waits) new = (h : Key) × AsksAt old at name (Ok (asked.Waits h)) new
AsksFor old at name (Ok found.Again) new = AsksAt old at name (Ok asked.Again) new
AsksFor old at name (Err error) new =
    ((error ≡ Deadlock) × ((h : Key) × AsksAt old at name (Ok (asked.Deadlock h)) new)) ⊎ Because (λ refusal. AsksAt old at name (Err refusal) new) error

-- a try: the transaction owns the name, or another one does, or a bucket changed, or it is refused
abbrev pub TriesFor : DeskState → ℕ → List ℕ → Result Found LockError → DeskState → Type 0
TriesFor old at name (Ok found.Owns) new = TriesAt old at name (Ok tried.Granted) new ⊎ TriesAt old at name (Ok tried.Held) new
TriesFor old at name (Ok found.Waits) new = (h : Key) × TriesAt old at name (Ok (tried.Busy h)) new
TriesFor old at name (Ok found.Again) new = TriesAt old at name (Ok tried.Again) new
TriesFor old at name (Err error) new = Because (λ refusal. TriesAt old at name (Err refusal) new) error

-- ---- the ends

-- what the answer to an unlock is told as
abbrev pub told_of : Result Unlocked Refusal → Result (Unit {0}) LockError
told_of (Ok Done) = Ok tt
told_of (Ok NotLetGo) = Err NotActive
told_of (Err refusal) = Err (error_of refusal)

-- the same of a commit: one that is not made is refused
abbrev pub ended_of : Result Unlocked Refusal → Result (Unit {0}) LockError
ended_of (Ok Done) = Ok tt
ended_of answer = Err NotActive

-- the desk is asked to hand the name over; or the worker gave it back by itself
abbrev pub HandsBack : DeskState → ℕ → List ℕ → Option (Result Unlocked Refusal) → DeskState → Type 0
HandsBack old at name (Some answer) new = UnlocksAt old at name answer new
HandsBack old at name None new = new ≡ old

-- the same, as it is told
abbrev pub UnlocksFor : DeskState → ℕ → List ℕ → Option (Result (Unit {0}) LockError) → DeskState → Type 0
UnlocksFor old at name (Some result) new = (answer : Result Unlocked Refusal) × UnlocksAt old at name answer new × (result ≡ told_of answer)
UnlocksFor old at name None new = new ≡ old

-- the worker's next transaction is begun, or that is refused
abbrev pub BeginsNext : DeskState → ℕ → DeskState → Type 0
BeginsNext old at new = (answer : Result Key Refusal) × BeginsAt old at answer new

-- its transaction is aborted, or that is refused, and then the next one is begun
abbrev pub RollsBack : DeskState → ℕ → DeskState → Type 0
RollsBack old at new = (room : ℕ) × (answer : Result Unlocked Refusal) × (ended : DeskState) × AbortsAt old at room answer ended × BeginsNext ended at new

-- what comes after the desk's answer to a commit
abbrev pub GoesOn : DeskState → ℕ → Result Unlocked Refusal → DeskState → Type 0
GoesOn ended at answer new = ((answer ≡ Ok Done) × BeginsNext ended at new) ⊎ ((answer ≡ Ok Done → ⊥) × RollsBack ended at new)

-- its transaction is committed and the next one is begun; or it is rolled back, and the call is refused
abbrev pub CommitsFor : DeskState → ℕ → Result (Unit {0}) LockError → DeskState → Type 0
CommitsFor old at result new =
    (room : ℕ) × (answer : Result Unlocked Refusal) × (ended : DeskState) × CommitsAt old at room answer ended × GoesOn ended at answer new × (result ≡ ended_of answer)

-- ---- an end in portions

-- the desk is asked to hand the name of this number over; or the number has no name, and nothing is done
abbrev pub HandsNumberOver : DeskState → ℕ → ℕ → DeskState → Type 0
HandsNumberOver old at number new =
    ((name : List ℕ) × (name_of old.manager.names number ≡ Some name) × ((answer : Result Unlocked Refusal) × UnlocksAt old at name answer new))
    ⊎ ((name_of old.manager.names number ≡ None) × (new ≡ old))

-- the desk is asked to hand the names of these numbers over, one after another
abbrev pub HandsEachOver : DeskState → ℕ → List ℕ → DeskState → Type 0
HandsEachOver old at [] new = new ≡ old
HandsEachOver old at (number ∷ numbers) new = (mid : DeskState) × HandsNumberOver old at number mid × HandsEachOver mid at numbers new

-- the transaction of a worker owns more names in the manager than a portion has; those of the first of their numbers, as listed in no order that is promised, are handed over
pub record HandsPortionOver (old : DeskState) (at : ℕ) (new : DeskState) : Type 0 where
  pub key : Key
  pub current : slice_get old.keys at ≡ Some key
  pub numbers : List ℕ  -- of all its names
  pub once : NoRepeat numbers
  pub owned : (n : ℕ) → Among n numbers ↔ (owner_of old.manager.table n ≡ Some key)
  pub many : PORTION < length numbers
  pub over : HandsEachOver old at (take PORTION numbers) new

-- its transaction is ended; or a portion of its names is handed over, and it goes on
abbrev pub CommitsOrHandsOver : DeskState → ℕ → Option (Result (Unit {0}) LockError) → DeskState → Type 0
CommitsOrHandsOver old at (Some result) new = CommitsFor old at result new
CommitsOrHandsOver old at None new = HandsPortionOver old at new

-- ---- looks at a request, and the end of its wait

-- what the transaction of a worker does; a worker that is not there has none
abbrev pub StatusAt : DeskState → ℕ → Result Status Refusal → Type 0
StatusAt d at does = ((slice_get d.keys at ≡ None) × (does ≡ Err NoTransaction)) ⊎ ((k : Key) × (slice_get d.keys at ≡ Some k) × HasStatus d.manager k does)

-- what a request has come to by what the transaction does, if it does not own the name
abbrev pub found_by : Result Status Refusal → Result Found LockError
found_by (Ok (status.Waiting n h)) = Ok found.Waits
found_by (Ok status.Active) = Err NotActive
found_by (Err refusal) = Err NotActive

-- a look at what a request has come to: the transaction owns the name; or it does not, and waits, or does not wait any more
abbrev pub FindsAt : DeskState → ℕ → List ℕ → Result Found LockError → Type 0
FindsAt d at name (Ok found.Owns) = OwnsAt d at name
FindsAt d at name answer = ¬ OwnsAt d at name × ((does : Result Status Refusal) × StatusAt d at does × (answer ≡ found_by does))

-- its wait is taken back; or that is refused, and the transaction owns the name or is not active
abbrev pub TakesBack : DeskState → ℕ → List ℕ → Result (Unit {0}) LockError → DeskState → Type 0
TakesBack old at name (Ok done) new = ((refusal : Refusal) × CancelsAt old at (Err refusal) new) × OwnsAt new at name
TakesBack old at name (Err error) new =
    ((error ≡ TimedOut) × CancelsAt old at (Ok tt) new) ⊎ ((error ≡ NotActive) × ((refusal : Refusal) × CancelsAt old at (Err refusal) new) × ¬ OwnsAt new at name)
