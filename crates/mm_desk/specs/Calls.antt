-- What calls of the books and the desk do.
use Rattle.std.specs.Prelude.{◌≡◌, ◌≢◌, ◌⊎◌, ◌↔◌, ◌/◌, ℕ, true, false, List, [], length, Option, Some, None, Result, Ok, Err, slice_get, slice_set, ◌<◌}
use Rattle.mm_arena.specs.declared.key.Key.{Key}
use Rattle.mm_names.specs.Names.{name_of}
use Rattle.mm_lists.specs.Members.{Among, NoRepeat}
use Rattle.mm_manager.specs.LockState.{LockState, Owns, Waits as WaitsFor}
use Rattle.mm_rules.specs.TableState.{is_live, owner_of}
use Rattle.mm_manager.specs.Permit.{may_name}
use Rattle.mm_manager.specs.Calls.{Aborts, AdoptsName, Begins, Commits, LocksName, TriesName, UnlocksName, Cancels}
use Rattle.mm_manager.specs.declared.reply.Lock.{Lock}
use Rattle.mm_manager.specs.declared.reply.Lock.TheVariants as lock
use Rattle.mm_manager.specs.declared.reply.TryLock.{TryLock}
use Rattle.mm_manager.specs.declared.reply.TryLock.TheVariants as trylock
use Rattle.mm_desk.specs.declared.reply.Tried.{Tried}
use Rattle.mm_desk.specs.declared.reply.Tried.TheVariants as tries
use Rattle.mm_thin.specs.declared.worker.TheConstants.{RECORDS}
use Rattle.mm_thin.specs.declared.views.RecordView.{RecordView}
use Rattle.mm_desk.specs.declared.reply.Asked.{Asked}
use Rattle.mm_desk.specs.declared.reply.Asked.TheVariants.{Granted, Held, Waits, Deadlock, Again}
use Rattle.mm_manager.specs.declared.refusal.Refusal.{Refusal}
use Rattle.mm_manager.specs.declared.refusal.Refusal.TheVariants.{NoTransaction, NamesFull}
use Rattle.mm_thin.specs.declared.views.Lent.{Lent}
use Rattle.mm_thin.specs.Spread.{bucket_by}
use Rattle.mm_desk.specs.Books.{BooksState}
use Rattle.mm_desk.specs.Desk.{DeskState}
use Rattle.mm_desk.specs.declared.reply.Adopted.{Adopted}
use Rattle.mm_desk.specs.declared.reply.Adopted.TheVariants.{Fat, Changed, Refused}
use Rattle.mm_desk.specs.declared.reply.Unlocked.{Unlocked}
use Rattle.mm_desk.specs.declared.reply.Unlocked.TheVariants.{Done, NotLetGo}

-- no name but this one gets a number
abbrev pub GrowsBy : LockState → List ℕ → LockState → Type 0
GrowsBy old name new = (n : ℕ) (x : List ℕ) → name_of new.names n ≡ Some x → (x ≡ name) ⊎ (name_of old.names n ≡ Some x)

-- no name gets a number
abbrev pub NamesFade : LockState → LockState → Type 0
NamesFade old new = (n : ℕ) (x : List ℕ) → name_of new.names n ≡ Some x → name_of old.names n ≡ Some x

-- each owner owns what it owned
abbrev pub OwnersStay : LockState → LockState → Type 0
OwnersStay old new = (h : Key) (x : List ℕ) → Owns old h x → Owns new h x

-- the same of all but this owner of this name
abbrev pub OthersStay : LockState → Key → List ℕ → LockState → Type 0
OthersStay old k name new = (h : Key) (x : List ℕ) → Owns old h x → ((h ≡ k) × (x ≡ name) → ⊥) → Owns new h x

-- each waits for what it waited for, and for nothing else
abbrev pub WaitsStay : LockState → LockState → Type 0
WaitsStay old new = (h : Key) (x : List ℕ) → WaitsFor new h x ↔ WaitsFor old h x

-- ---- a thin name is handed to the manager

-- the name is of this bucket, and the transaction of this key owns it
abbrev pub IsTakenOver : BooksState → Option Key → ℕ → List ℕ → Type 0
IsTakenOver books key bucket name = (bucket ≡ bucket_by books.spread name) × ((k : Key) × (key ≡ Some k) × Owns books.manager k name)

-- the manager refuses the name; or there is no transaction of this key, or the name is not of this bucket
abbrev pub IsOffered : BooksState → Option Key → ℕ → List ℕ → Refusal → BooksState → Type 0
IsOffered old key bucket name refusal new =
    (refusal ≡ NoTransaction) ⊎ ((k : Key) × (key ≡ Some k) × (bucket ≡ bucket_by old.spread name) × AdoptsName old.manager k name (Err refusal) new.manager)

-- what is fat stays fat, and owners and waits stay; nothing else that a caller sees changes but the manager
pub record KeepsFat (old new : DeskState) : Type 0 where
  pub of : new.office.of ≡ old.office.of
  pub keys : new.keys ≡ old.keys
  pub fat : (b : ℕ) → Among b old.office.desk.fat → Among b new.office.desk.fat
  pub stay : OwnersStay old.manager new.manager
  pub waits : WaitsStay old.manager new.manager

-- what became of a bucket
abbrev pub AdoptsBucket : ℕ → Adopted → DeskState → Type 0
AdoptsBucket bucket Fat new = Among bucket new.office.desk.fat
AdoptsBucket bucket Changed new = Unit {0}
AdoptsBucket bucket (Refused refusal) new = Unit {0}

-- a name of this bucket is not taken over: the manager refused it to the transaction of a worker; or that transaction, or the name, is not what the words said
abbrev pub FailsToAdopt : DeskState → ℕ → Refusal → DeskState → Type 0
FailsToAdopt old bucket refusal new =
    (refusal ≡ NoTransaction)
    ⊎ ((k : Key) × (at : ℕ) × (name : List ℕ) × (slice_get old.keys at ≡ Some k) × (bucket ≡ bucket_by old.office.of.spread name) × AdoptsName old.manager k name (Err refusal) new.manager)

-- why a bucket was not made fat
abbrev pub RefusesBucket : DeskState → ℕ → Adopted → DeskState → Type 0
RefusesBucket old bucket Fat new = Unit {0}
RefusesBucket old bucket Changed new = Unit {0}
RefusesBucket old bucket (Refused refusal) new = FailsToAdopt old bucket refusal new

-- why one of several was not, after others were
abbrev pub FailsToAdoptOne : DeskState → Refusal → DeskState → Type 0
FailsToAdoptOne old refusal new = (mid : DeskState) × KeepsFat old mid × ((bucket : ℕ) × FailsToAdopt mid bucket refusal new)

abbrev pub RefusesOne : DeskState → Adopted → DeskState → Type 0
RefusesOne old Fat new = Unit {0}
RefusesOne old Changed new = Unit {0}
RefusesOne old (Refused refusal) new = FailsToAdoptOne old refusal new

-- ---- a name is handed over

-- no loan of a bucket is to a worker whose transaction has this key
abbrev pub LoansAreOthers : DeskState → ℕ → Key → Type 0
LoansAreOthers d bucket k = (l : Lent) → Among l d.office.desk.lent → l.bucket ≡ bucket → slice_get d.keys (l.number / RECORDS) ≡ Some k → ⊥

-- a bucket is lent to a worker whose transaction has this key
abbrev pub IsLentTo : DeskState → ℕ → Key → Type 0
IsLentTo d bucket k = (l : Lent) × Among l d.office.desk.lent × (l.bucket ≡ bucket) × (slice_get d.keys (l.number / RECORDS) ≡ Some k)

-- the manager and the keys stay
pub record KeepsManager (old new : DeskState) : Type 0 where
  pub of : new.office.of ≡ old.office.of
  pub keys : new.keys ≡ old.keys
  pub manager : new.manager ≡ old.manager

-- an unlock by the transaction of a worker
abbrev pub UnlocksAt : DeskState → ℕ → List ℕ → Result Unlocked Refusal → DeskState → Type 0
UnlocksAt old at name (Ok Done) new = (k : Key) × (slice_get old.keys at ≡ Some k) × UnlocksName old.manager k name (Ok tt) new.manager × (new.keys ≡ old.keys)
UnlocksAt old at name (Ok NotLetGo) new = ((k : Key) × (slice_get old.keys at ≡ Some k) × IsLentTo old (bucket_by old.office.of.spread name) k) × KeepsManager old new
UnlocksAt old at name (Err refusal) new =
    ((slice_get old.keys at ≡ None) × (refusal ≡ NoTransaction) × (new ≡ old))
    ⊎ ((k : Key) × (slice_get old.keys at ≡ Some k) × UnlocksName old.manager k name (Err refusal) new.manager × (new.keys ≡ old.keys))

-- ---- a request

-- the same answer as the manager's
abbrev pub asked_of : Result Lock Refusal → Result Asked Refusal
asked_of (Ok lock.Granted) = Ok Granted
asked_of (Ok lock.Held) = Ok Held
asked_of (Ok (lock.Waits h)) = Ok (Waits h)
asked_of (Ok (lock.Deadlock h)) = Ok (Deadlock h)
asked_of (Err refusal) = Err refusal

-- the manager is asked for a name by the transaction of a worker, if there is one
abbrev pub RequestsAt : DeskState → ℕ → List ℕ → Result Asked Refusal → DeskState → Type 0
RequestsAt old at name answer new =
    ((slice_get old.keys at ≡ None) × (answer ≡ Err NoTransaction) × (new ≡ old))
    ⊎ ((k : Key) × (told : Result Lock Refusal) × (slice_get old.keys at ≡ Some k) × LocksName old.manager k name told new.manager × (answer ≡ asked_of told))

-- after a refusal a bucket may be freed, and nothing else changes
abbrev pub FreesIfRefused : {T : Type 0} → DeskState → Result T Refusal → DeskState → Type 0
FreesIfRefused asked (Ok told) new = new ≡ asked
FreesIfRefused asked (Err refusal) new = KeepsManager asked new

-- the name has no bytes or too many, and nothing changes
abbrev pub RefusesName : {T : Type 0} → DeskState → List ℕ → Result T Refusal → DeskState → Type 0
RefusesName old name answer new = (refusal : Refusal) × (may_name old.manager.names.name_bytes name ≡ Err refusal) × (answer ≡ Err refusal) × (new ≡ old)

-- what is thin in the name's bucket was handed to the manager
abbrev pub Fattens : DeskState → List ℕ → DeskState → Type 0
Fattens old name new = KeepsFat old new × Among (bucket_by old.office.of.spread name) new.office.desk.fat

-- the name's bucket could not be made fat
abbrev pub FailsToFatten : DeskState → List ℕ → Refusal → DeskState → Type 0
FailsToFatten old name refusal new = FailsToAdopt old (bucket_by old.office.of.spread name) refusal new

-- the request comes after the name's bucket was made fat; or that could not be done, and nothing is asked for
abbrev pub AsksNamed : DeskState → ℕ → List ℕ → Result Asked Refusal → DeskState → Type 0
AsksNamed old at name answer new =
    ((mid : DeskState) × Fattens old name mid × ((asked : DeskState) × RequestsAt mid at name answer asked × (asked.office ≡ mid.office) × (asked.keys ≡ mid.keys) × FreesIfRefused asked answer new))
    ⊎ (KeepsFat old new × ((answer ≡ Ok Again) ⊎ ((refusal : Refusal) × (answer ≡ Err refusal) × FailsToFatten old name refusal new)))

-- these bytes can be no name; or they are asked for
abbrev pub AsksAt : DeskState → ℕ → List ℕ → Result Asked Refusal → DeskState → Type 0
AsksAt old at name answer new = RefusesName old name answer new ⊎ ((may_name old.manager.names.name_bytes name ≡ Ok tt) × AsksNamed old at name answer new)

-- ---- a try

-- the same answer as the manager's
abbrev pub tried_of : Result TryLock Refusal → Result Tried Refusal
tried_of (Ok trylock.Granted) = Ok tries.Granted
tried_of (Ok trylock.Held) = Ok tries.Held
tried_of (Ok (trylock.Busy h)) = Ok (tries.Busy h)
tried_of (Err refusal) = Err refusal

-- the manager is asked for a name that is not to be waited for, by the transaction of a worker, if there is one
abbrev pub AttemptsAt : DeskState → ℕ → List ℕ → Result Tried Refusal → DeskState → Type 0
AttemptsAt old at name answer new =
    ((slice_get old.keys at ≡ None) × (answer ≡ Err NoTransaction) × (new ≡ old))
    ⊎ ((k : Key) × (told : Result TryLock Refusal) × (slice_get old.keys at ≡ Some k) × TriesName old.manager k name told new.manager × (answer ≡ tried_of told))

-- the try comes after the name's bucket was made fat; or that could not be done, and nothing is asked for
abbrev pub TriesNamed : DeskState → ℕ → List ℕ → Result Tried Refusal → DeskState → Type 0
TriesNamed old at name answer new =
    ((mid : DeskState) × Fattens old name mid × ((asked : DeskState) × AttemptsAt mid at name answer asked × (asked.office ≡ mid.office) × (asked.keys ≡ mid.keys) × FreesIfRefused asked answer new))
    ⊎ (KeepsFat old new × ((answer ≡ Ok tries.Again) ⊎ ((refusal : Refusal) × (answer ≡ Err refusal) × FailsToFatten old name refusal new)))

-- these bytes can be no name; or they are tried
abbrev pub TriesAt : DeskState → ℕ → List ℕ → Result Tried Refusal → DeskState → Type 0
TriesAt old at name answer new = RefusesName old name answer new ⊎ ((may_name old.manager.names.name_bytes name ≡ Ok tt) × TriesNamed old at name answer new)

-- ---- what a worker's transaction owns

-- each number of a name that it owns, once; none if there is no such transaction, or if there is room for this many names and there can be more
abbrev pub ListsOwned : DeskState → ℕ → ℕ → List ℕ → Type 0
ListsOwned d at room numbers =
    ((slice_get d.keys at ≡ None) × (numbers ≡ []))
    ⊎ ((room < d.manager.table.config.resources) × (numbers ≡ []))
    ⊎ ((k : Key) × (slice_get d.keys at ≡ Some k) × NoRepeat numbers × ((n : ℕ) → Among n numbers ↔ (owner_of d.manager.table n ≡ Some k)))

-- ---- what holds of any worker and the desk

-- who owns the name in the manager that the record has taken is the transaction of the record's worker
abbrev pub OwnsAlone : DeskState → ℕ → RecordView → Type 0
OwnsAlone d at r = r.taken ≢ [] → (h : Key) → Owns d.manager h r.name → slice_get d.keys at ≡ Some h

-- if the bucket that the record has taken is fat, the transaction of its worker owns the name in the manager
abbrev pub IsOwned : DeskState → ℕ → RecordView → Type 0
IsOwned d at r = (b : ℕ) → Among b r.taken → Among b d.office.desk.fat → (k : Key) × (slice_get d.keys at ≡ Some k) × Owns d.manager k r.name

-- ---- a wait is taken back

abbrev pub CancelsAt : DeskState → ℕ → Result (Unit {0}) Refusal → DeskState → Type 0
CancelsAt old at answer new =
    ((slice_get old.keys at ≡ None) × (answer ≡ Err NoTransaction) × (new ≡ old)) ⊎ ((k : Key) × (slice_get old.keys at ≡ Some k) × Cancels old.manager k answer new.manager)

-- ---- the opening

-- no name has a number, so nobody owns one
abbrev pub HasNoNames : LockState → Type 0
HasNoNames m = (n : ℕ) (name : List ℕ) → name_of m.names n ≡ Some name → ⊥

-- ---- a transaction ends

-- all names of others stay with them, and no name gets a number
pub record IsOver (old : LockState) (k : Key) (new : LockState) : Type 0 where
  pub size : length new.names.names ≡ length old.names.names
  pub fade : NamesFade old new
  pub stay : (h : Key) (x : List ℕ) → Owns old h x → h ≢ k → Owns new h x

-- no bucket is lent to a worker whose transaction has this key
abbrev pub NoLoansOf : DeskState → Key → Type 0
NoLoansOf d k = (l : Lent) → Among l d.office.desk.lent → slice_get d.keys (l.number / RECORDS) ≡ Some k → ⊥

-- what is lent was lent
abbrev pub LoansEnd : DeskState → DeskState → Type 0
LoansEnd old new = (l : Lent) → Among l new.office.desk.lent → Among l old.office.desk.lent

-- no bucket of this number's name is lent to a worker whose transaction has this key
abbrev pub NumberIsFree : DeskState → Key → ℕ → Type 0
NumberIsFree d k n = (name : List ℕ) → name_of d.manager.names n ≡ Some name → LoansAreOthers d (bucket_by d.office.of.spread name) k

-- the end of a worker's transaction is refused before the manager is asked: it has none, or there is room for this many names and there can be more
abbrev pub IsUnasked : DeskState → ℕ → ℕ → Refusal → DeskState → Type 0
IsUnasked old at room refusal new =
    ((slice_get old.keys at ≡ None) × (refusal ≡ NoTransaction) × (new ≡ old)) ⊎ ((room < old.manager.table.config.resources) × (refusal ≡ NamesFull) × (new ≡ old))

-- a bucket is lent to the worker
abbrev pub HasNotLetGo : DeskState → ℕ → Type 0
HasNotLetGo d at = (k : Key) × (slice_get d.keys at ≡ Some k) × ((b : ℕ) × IsLentTo d b k)

-- the commit of a worker's transaction, with room for this many names
abbrev pub CommitsAt : DeskState → ℕ → ℕ → Result Unlocked Refusal → DeskState → Type 0
CommitsAt old at room (Ok Done) new = (k : Key) × (slice_get old.keys at ≡ Some k) × Commits old.manager k (Ok tt) new.manager × (new.keys ≡ old.keys)
CommitsAt old at room (Ok NotLetGo) new = HasNotLetGo old at × KeepsManager old new
CommitsAt old at room (Err refusal) new =
    IsUnasked old at room refusal new ⊎ ((k : Key) × (slice_get old.keys at ≡ Some k) × Commits old.manager k (Err refusal) new.manager × (new.keys ≡ old.keys))

-- its abort
abbrev pub AbortsAt : DeskState → ℕ → ℕ → Result Unlocked Refusal → DeskState → Type 0
AbortsAt old at room (Ok Done) new = (k : Key) × (slice_get old.keys at ≡ Some k) × Aborts old.manager k (Ok tt) new.manager × (new.keys ≡ old.keys)
AbortsAt old at room (Ok NotLetGo) new = HasNotLetGo old at × KeepsManager old new
AbortsAt old at room (Err refusal) new =
    IsUnasked old at room refusal new ⊎ ((k : Key) × (slice_get old.keys at ≡ Some k) × Aborts old.manager k (Err refusal) new.manager × (new.keys ≡ old.keys))

-- ---- a worker's next transaction

-- the transaction of the worker is live, and has this key; or it has ended, and the next one has this key
abbrev pub BeginsAt : DeskState → ℕ → Result Key Refusal → DeskState → Type 0
BeginsAt old at (Ok next) new =
    ((slice_get old.keys at ≡ Some next) × (is_live old.manager.table next ≡ true) × (new ≡ old))
    ⊎ ((k : Key) × (slice_get old.keys at ≡ Some k) × (is_live old.manager.table k ≡ false) × Begins old.manager (Ok next) new.manager × (new.keys ≡ slice_set old.keys at next) × (new.office ≡ old.office))
BeginsAt old at (Err refusal) new =
    ((slice_get old.keys at ≡ None) × (refusal ≡ NoTransaction) × (new ≡ old))
    ⊎ ((k : Key) × (slice_get old.keys at ≡ Some k) × (is_live old.manager.table k ≡ false) × Begins old.manager (Err refusal) new.manager × (new.keys ≡ old.keys) × (new.office ≡ old.office))
