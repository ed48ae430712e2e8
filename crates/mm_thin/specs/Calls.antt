-- What the calls answer.
use Rattle.std.specs.Prelude.{◌≡◌, ◌≢◌, ◌⊎◌, ◌<◌, ◌≤◌, ◌+◌, ℕ, Bool, true, false, List, [], length, slice_get, slice_set, Some}
use Rattle.mm_lists.specs.Members.{Among}
use Rattle.mm_thin.specs.declared.worker.TheConstants.{PLACES}
use Rattle.mm_thin.specs.declared.views.Lent.{Lent}
use Rattle.mm_thin.specs.declared.views.DeskView.{DeskView}
use Rattle.mm_thin.specs.declared.views.RecordView.{RecordView}
use Rattle.mm_thin.specs.declared.reply.Got.{Got}
use Rattle.mm_thin.specs.declared.reply.Got.TheVariants.{WasFat, WasFree, WasThin, Changed}
use Rattle.mm_thin.specs.declared.reply.GiveUp.{GiveUp}
use Rattle.mm_thin.specs.declared.reply.GiveUp.TheVariants.{Done, NotTaken}
use Rattle.mm_thin.specs.declared.reply.GiveUp.TheVariants as given
use Rattle.mm_thin.specs.declared.reply.Take.{Take}
use Rattle.mm_thin.specs.declared.reply.Take.TheVariants.{Taken, Held, Busy, Full, NotThin}
use Rattle.mm_thin.specs.declared.reply.Take.TheVariants as take
use Rattle.mm_thin.specs.declared.reply.Look.{Look}
use Rattle.mm_thin.specs.declared.reply.Look.TheVariants.{NotFat, Fat, IsLent}
use Rattle.mm_thin.specs.Parts.{WorkerState, OfficeState, bucket_of}
use Rattle.mm_thin.specs.Views.{loan, with_taken, idle, with_fat, with_lent, without_lent, thinned}

-- a record asks for a bucket
abbrev pub TakesBucket : RecordView → ℕ → List ℕ → Bool → RecordView → Type 0
TakesBucket r bucket name true after = after ≡ with_taken r bucket name
TakesBucket r bucket name false after = after ≡ r

-- a record gives a bucket up
abbrev pub GivesUp : RecordView → Bool → RecordView → Type 0
GivesUp r true after = after ≡ idle r
GivesUp r false after = after ≡ r

-- it gives up what it has taken, if it has taken something
abbrev pub LeavesBucket : RecordView → GiveUp → RecordView → Type 0
LeavesBucket r Done after = (r.taken ≢ []) × (after ≡ idle r)
LeavesBucket r given.Changed after = (r.taken ≢ []) × (after ≡ r)
LeavesBucket r NotTaken after = (r.taken ≡ []) × (after ≡ r)

-- it has taken this name
abbrev pub IsFor : RecordView → List ℕ → Type 0
IsFor r name = (r.taken ≢ []) × (r.name ≡ name)

-- the office asks for a bucket
abbrev pub GetsBucket : DeskView → ℕ → Got → DeskView → Type 0
GetsBucket d bucket WasFat after = (after ≡ d) × Among bucket d.fat
GetsBucket d bucket WasFree after = (after ≡ with_fat d bucket) × (Among bucket d.fat → ⊥)
GetsBucket d bucket (WasThin number name) after = (after ≡ with_lent d bucket number name) × (Among bucket d.fat → ⊥)
GetsBucket d bucket Changed after = (after ≡ d) × (Among bucket d.fat → ⊥)

-- it makes a worker: of its words, with the next number, and records that have taken nothing
pub record AddsWorker (old : OfficeState) (w : WorkerState) (new : OfficeState) : Type 0 where
  pub of : w.of ≡ old.of
  pub at : w.at ≡ old.workers
  pub full : length w.records ≡ PLACES
  pub idle : (k : ℕ) (r : RecordView) → slice_get w.records k ≡ Some r → r.taken ≡ []
  pub office : (new.of ≡ old.of) × (new.desk.fat ≡ old.desk.fat) × (new.desk.lent ≡ old.desk.lent)
  pub more : (new.workers ≡ old.workers + 1) × (new.max_workers ≡ old.max_workers)

-- it asks for one that is free
abbrev pub TakesFree : DeskView → ℕ → Bool → DeskView → Type 0
TakesFree d bucket true after = after ≡ with_fat d bucket
TakesFree d bucket false after = after ≡ d

-- the office looks at a bucket
abbrev pub LooksAt : DeskView → ℕ → Look → DeskView → Type 0
LooksAt d bucket NotFat after = (after ≡ d) × (Among bucket d.fat → ⊥)
LooksAt d bucket Fat after = (after ≡ without_lent d bucket) × Among bucket d.fat
LooksAt d bucket IsLent after = (after ≡ d) × Among bucket d.fat × ((l : Lent) × Among l d.lent × (l.bucket ≡ bucket))

-- the office makes a bucket thin again, that it has lent
abbrev pub ThinsBucket : DeskView → ℕ → Bool → DeskView → Type 0
ThinsBucket d bucket true after = after ≡ thinned d bucket
ThinsBucket d bucket false after = after ≡ without_lent d bucket

-- a bucket that a record has taken and that is fat is lent to this record, for its name
abbrev pub AreLent : RecordView → DeskView → Type 0
AreLent r d = (b : ℕ) → Among b r.taken → Among b d.fat → Among (loan b r.number r.name) d.lent

-- no bucket is taken by both
abbrev pub AreApart : RecordView → RecordView → Type 0
AreApart r q = (b : ℕ) → Among b r.taken → Among b q.taken → ⊥

-- ---- a worker

-- one record of it has taken this name
abbrev pub HasTaken : List RecordView → List ℕ → Type 0
HasTaken records name = (k : ℕ) × (r : RecordView) × (slice_get records k ≡ Some r) × IsFor r name

-- each record has taken something
abbrev pub IsFull : List RecordView → Type 0
IsFull records = (k : ℕ) (r : RecordView) → slice_get records k ≡ Some r → r.taken ≢ []

-- the records from this place on have taken nothing
abbrev pub AreIdleFrom : ℕ → List RecordView → Type 0
AreIdleFrom used records = (k : ℕ) (r : RecordView) → used ≤ k → slice_get records k ≡ Some r → r.taken ≡ []

-- one record of it changes
abbrev pub with_record : WorkerState → ℕ → RecordView → WorkerState
with_record w k r = record w { records = slice_set w.records k r }

-- this record asks for a name
abbrev pub TakesAt : WorkerState → ℕ → List ℕ → Bool → WorkerState → Type 0
TakesAt w k name true after = (r : RecordView) × (slice_get w.records k ≡ Some r) × (r.taken ≡ []) × (after ≡ with_record w k (with_taken r (bucket_of w.of name) name))
TakesAt w k name false after = after ≡ w

-- a worker asks for a name
abbrev pub TakesName : WorkerState → List ℕ → Take → WorkerState → Type 0
TakesName w name Taken after =
    (k : ℕ) × (r : RecordView) × (slice_get w.records k ≡ Some r) × (r.taken ≡ []) × (after ≡ with_record w k (with_taken r (bucket_of w.of name) name))
TakesName w name Held after = (after ≡ w) × HasTaken w.records name
TakesName w name Busy after = (after ≡ w) × (HasTaken w.records name → ⊥)
TakesName w name take.Fat after = (after ≡ w) × (HasTaken w.records name → ⊥)
TakesName w name Full after = (after ≡ w) × (HasTaken w.records name → ⊥) × IsFull w.records
TakesName w name NotThin after = (after ≡ w) × ((name ≡ []) ⊎ (w.of.bytes < length name))

-- a worker gives up what its record k has taken
abbrev pub LeavesName : WorkerState → ℕ → GiveUp → WorkerState → Type 0
LeavesName w k Done after = (r : RecordView) × (slice_get w.records k ≡ Some r) × (r.taken ≢ []) × (after ≡ with_record w k (idle r))
LeavesName w k given.Changed after = (after ≡ w) × ((r : RecordView) × (slice_get w.records k ≡ Some r) × (r.taken ≢ []))
LeavesName w k NotTaken after = (after ≡ w) × ((r : RecordView) → slice_get w.records k ≡ Some r → r.taken ≡ [])

-- a worker gives up a name, if it has taken it
abbrev pub GivesBack : WorkerState → List ℕ → GiveUp → WorkerState → Type 0
GivesBack w name Done after = (k : ℕ) × (r : RecordView) × (slice_get w.records k ≡ Some r) × IsFor r name × (after ≡ with_record w k (idle r))
GivesBack w name given.Changed after = HasTaken w.records name × (after ≡ w)
GivesBack w name NotTaken after = (HasTaken w.records name → ⊥) × (after ≡ w)

-- each record has what it had, or has given it up; and whether one of those from this place on is left that has taken something
pub record GivesBackFrom (old : WorkerState) (from : ℕ) (is_left : Bool) (new : WorkerState) : Type 0 where
  pub of : new.of ≡ old.of
  pub at : new.at ≡ old.at
  pub size : length new.records ≡ length old.records
  pub each : (k : ℕ) (r : RecordView) → slice_get old.records k ≡ Some r → (slice_get new.records k ≡ Some r) ⊎ (slice_get new.records k ≡ Some (idle r))
  pub none : is_left ≡ false → AreIdleFrom from new.records
  pub some : is_left ≡ true → (k : ℕ) × (r : RecordView) × (from ≤ k) × (slice_get new.records k ≡ Some r) × (r.taken ≢ [])

-- the same of all records
abbrev pub GivesAllBack : WorkerState → Bool → WorkerState → Type 0
GivesAllBack old is_left new = GivesBackFrom old 0 is_left new

-- each record has what it had, or has given it up
abbrev pub GivesSomeUp : WorkerState → WorkerState → Type 0
GivesSomeUp old new = (is_left : Bool) × GivesAllBack old is_left new
