-- What the calls do, in terms of names.
use Rattle.std.specs.Prelude.{◌≡◌, ◌≢◌, ◌⊎◌, ◌↔◌, ℕ, true, false, List, length, Some, Result, Ok, Err}
use Rattle.mm_arena.specs.declared.key.Key.{Key}
use Rattle.mm_lists.specs.Members.{Among}
use Rattle.mm_names.specs.Names.{NameTable, name_of, Interns}
use Rattle.mm_rules.specs.Adopt.{Adopts}
use Rattle.mm_rules.specs.declared.reply.Released.{Released}
use Rattle.mm_rules.specs.TableState.{TableState, is_live, owner_of}
use Rattle.mm_rules.specs.TakeBack.{LeadsTo, IsSameButLabels}
use Rattle.mm_rules.specs.Event.{Event, Begin, Release, Finish, Answer, Step}
use Rattle.mm_settled.specs.Calls.{Locks, Made, MadeWithdrawal}
use Rattle.mm_settled.specs.Grants.{grants}
use Rattle.mm_settled.specs.declared.reply.Grant.{Grant}
use Rattle.mm_settled.specs.declared.reply.Locked.{Locked}
use Rattle.mm_settled.specs.declared.reply.Locked.TheVariants as locked
use Rattle.mm_manager.specs.Permit.{may_ask, may_begin, may_cancel, may_wait}
use Rattle.mm_manager.specs.LockState.{LockState, Owns, Waits, IsUnowned, KeepOwned, untold}
use Rattle.mm_manager.specs.Refused.{AdoptRefused, TryRefused, LockRefused, UnlockRefused}
use Rattle.mm_manager.specs.declared.refusal.Refusal.{Refusal}
use Rattle.mm_manager.specs.declared.refusal.Refusal.TheVariants.{NoTransaction, NotOwner}
use Rattle.mm_manager.specs.declared.reply.Lock.{Lock}
use Rattle.mm_manager.specs.declared.reply.Lock.TheVariants as lock
use Rattle.mm_manager.specs.declared.reply.TryLock.{TryLock}
use Rattle.mm_manager.specs.declared.reply.TryLock.TheVariants as tried
use Rattle.mm_manager.specs.declared.totals.Totals.{Totals}

-- ---- begin

-- a transaction starts, and nothing else changes but the counts
abbrev pub Begins : LockState → Result Key Refusal → LockState → Type 0
Begins old (Ok key) new = (may_begin old.table ≡ Ok tt) × Step Begin old.table (Ok key) new.table × (new ≡ record (untold old) { table = new.table; totals = new.totals })
Begins old (Err refusal) new = (new ≡ untold old) × (may_begin old.table ≡ Err refusal)

-- ---- lock

-- nobody owned the name and k does from now on; all else stays
pub record Gets (old : LockState) (k : Key) (name : List ℕ) (new : LockState) : Type 0 where
  pub free : IsUnowned old name
  pub owns : Owns new k name
  pub others : (h : Key) (other : List ℕ) → other ≢ name → Owns new h other ↔ Owns old h other
  pub waits : (h : Key) (other : List ℕ) → Waits new h other ↔ Waits old h other
  pub config : new.table.config ≡ old.table.config
  pub names_each : new.names_each ≡ old.names_each

-- h owns the name and k waits for it from now on; all else stays
pub record Queues (old : LockState) (k : Key) (name : List ℕ) (h : Key) (new : LockState) : Type 0 where
  pub holder : Owns old h name
  pub waits : Waits new k name
  pub owners : (g : Key) (other : List ℕ) → Owns new g other ↔ Owns old g other
  pub others : (g : Key) (other : List ℕ) → g.process ≢ k.process → Waits new g other ↔ Waits old g other
  pub config : new.table.config ≡ old.table.config
  pub names_each : new.names_each ≡ old.names_each

-- h owns the name, and waits, directly or over others, for k: so k does not wait, and but for labels and counts all is as before
pub record IsDeclined (old : LockState) (k : Key) (name : List ℕ) (h : Key) (new : LockState) : Type 0 where
  pub holder : Owns old h name
  pub closes : LeadsTo old.table h.process k.process
  pub same : IsSameButLabels old.table new.table
  pub state : new ≡ record (untold old) { table = new.table; totals = new.totals }

-- what a request for a name does, by its answer
abbrev pub LocksName : LockState → Key → List ℕ → Result Lock Refusal → LockState → Type 0
LocksName old k name (Ok lock.Granted) new = Gets old k name new
LocksName old k name (Ok lock.Held) new = Owns old k name × (new ≡ untold old)
LocksName old k name (Ok (lock.Waits h)) new = Queues old k name h new × ¬ LeadsTo old.table h.process k.process
LocksName old k name (Ok (lock.Deadlock h)) new = IsDeclined old k name h new
LocksName old k name (Err refusal) new = (new ≡ untold old) × LockRefused old k name refusal

-- what a try does, by its answer: it never waits
abbrev pub TriesName : LockState → Key → List ℕ → Result TryLock Refusal → LockState → Type 0
TriesName old k name (Ok tried.Granted) new = Gets old k name new
TriesName old k name (Ok tried.Held) new = Owns old k name × (new ≡ untold old)
TriesName old k name (Ok (tried.Busy h)) new = Owns old h name × (h ≢ k) × (new ≡ untold old)
TriesName old k name (Err refusal) new = (new ≡ untold old) × TryRefused old k name refusal

-- what an adoption does, by its answer: what a try does that is so answered; but also who waits may be given a name
abbrev pub AdoptsName : LockState → Key → List ℕ → Result TryLock Refusal → LockState → Type 0
AdoptsName old k name (Ok answer) new = TriesName old k name (Ok answer) new
AdoptsName old k name (Err refusal) new = (new ≡ untold old) × AdoptRefused old k name refusal

-- by numbers: the name has a number, now or already, and the table at rest answers the request for that number so
abbrev pub Asks : TableState → NameTable → Key → List ℕ → Locked → TableState → NameTable → Type 0
Asks s t k name answer new named = (n : ℕ) × Interns t name n named × Locks s k n (Ok answer) new

-- h owns the name, and nothing changes
abbrev pub Finds : TableState → NameTable → List ℕ → Key → TableState → NameTable → Type 0
Finds s t name h new named = ((n : ℕ) × (name_of t n ≡ Some name) × (owner_of s n ≡ Some h)) × (new ≡ s) × (named ≡ t)

-- so a request is answered: with its name's number from now on, or as one that owns it already; who waits has a label left for that
abbrev pub Requests : TableState → NameTable → Totals → Key → List ℕ → Lock → TableState → NameTable → Type 0
Requests s t c k name lock.Granted new named = Asks s t k name locked.Granted new named
Requests s t c k name (lock.Waits h) new named = (may_wait s c ≡ true) × Asks s t k name (locked.Waits h) new named
Requests s t c k name (lock.Deadlock h) new named = (may_wait s c ≡ true) × Asks s t k name (locked.Deadlock h) new named
Requests s t c k name lock.Held new named = Finds s t name k new named

-- so a try is answered
abbrev pub Tries : TableState → NameTable → Key → List ℕ → TryLock → TableState → NameTable → Type 0
Tries s t k name tried.Granted new named = Asks s t k name locked.Granted new named
Tries s t k name tried.Held new named = Finds s t name k new named
Tries s t k name (tried.Busy h) new named = (h ≢ k) × Finds s t name h new named

-- so an adoption is answered: nobody owned the name's number and k does, and but for this owner the table is as it was
abbrev pub AdoptsNumber : TableState → NameTable → Key → List ℕ → TryLock → TableState → NameTable → Type 0
AdoptsNumber s t k name tried.Granted new named = (n : ℕ) × Interns t name n named × Adopts k n s new
AdoptsNumber s t k name tried.Held new named = Finds s t name k new named
AdoptsNumber s t k name (tried.Busy h) new named = (h ≢ k) × Finds s t name h new named

-- ---- hand-overs

-- the event is made in the table at rest, the list tells of its grants, and a number keeps its name exactly while it is owned
pub record HandsOver (e : Event) (old : LockState) (answer : Answer e) (new : LockState) : Type 0 where
  pub made : Made e old.table answer new.table
  pub granted : new.granted ≡ grants old.table new.table
  pub names : KeepOwned old.names new.table new.names

-- h was granted the name
abbrev pub IsGranted : LockState → LockState → Key → List ℕ → Type 0
IsGranted old new h name = (g : Grant) × Among g new.granted × (g.key ≡ h) × (name_of old.names g.resource ≡ Some name)

-- what a call of k does to all: who loses a name does not own it afterwards; `granted` are the waits that ended, but for that of k; all else stays, also how many names there can
-- be, how many bytes each may have, and how many a transaction may own
pub record Passes (old : LockState) (k : Key) (Loses : Key → List ℕ → Type 0) (new : LockState) : Type 0 where
  pub keeps : (h : Key) (name : List ℕ) → Owns old h name → ¬ Loses h name → Owns new h name
  pub gains : (h : Key) (name : List ℕ) → Owns new h name → ¬ Loses h name × (Owns old h name ⊎ IsGranted old new h name)
  pub granted : (h : Key) (name : List ℕ) → IsGranted old new h name → Waits old h name × (¬ Loses h name → Owns new h name)
  pub goes_on : (g : Grant) (name : List ℕ) → Among g new.granted → ¬ Waits new g.key name
  pub waits : (h : Key) (name : List ℕ) → Waits new h name → Waits old h name
  pub ended : (h : Key) (name : List ℕ) → h.process ≢ k.process → Waits old h name
      → Waits new h name ⊎ ((g : Key) × (g.process ≡ h.process) × IsGranted old new g name)
  pub config : new.table.config ≡ old.table.config
  pub numbers : length new.names.names ≡ length old.names.names
  pub name_bytes : new.names.name_bytes ≡ old.names.name_bytes
  pub names_each : new.names_each ≡ old.names_each

-- ---- unlock, commit

-- k loses this name
abbrev pub LosesName : Key → List ℕ → Key → List ℕ → Type 0
LosesName k name h other = (h ≡ k) × (other ≡ name)

-- k loses all that it owns
abbrev pub LosesAll : Key → Key → List ℕ → Type 0
LosesAll k h name = h ≡ k

-- k owned the name, by its number; it is handed over
pub record Unlocks (old : LockState) (k : Key) (name : List ℕ) (new : LockState) : Type 0 where
  pub number : ℕ
  pub named : name_of old.names number ≡ Some name
  pub owned : owner_of old.table number ≡ Some k
  pub answer : Released
  pub over : HandsOver (Release k number) old answer new
  pub passes : Passes old k (LosesName k name) new

-- k, which did not wait, ends, and hands over all that it owned
pub record Ends (old : LockState) (k : Key) (new : LockState) : Type 0 where
  pub over : HandsOver (Finish k) old tt new
  pub passes : Passes old k (LosesAll k) new

-- what an unlock does, by its answer
abbrev pub UnlocksName : LockState → Key → List ℕ → Result (Unit {0}) Refusal → LockState → Type 0
UnlocksName old k name (Ok done) new = Unlocks old k name new
UnlocksName old k name (Err refusal) new = (new ≡ untold old) × UnlockRefused old k name refusal

-- k may not ask; or it owns no name
abbrev pub UnlockAnyRefused : LockState → Key → Refusal → Type 0
UnlockAnyRefused m k refusal = (may_ask m.table k ≡ Err refusal) ⊎ ((may_ask m.table k ≡ Ok tt) × (refusal ≡ NotOwner) × ((name : List ℕ) → ¬ Owns m k name))

-- what an unlock of whatever name k owns does, by its answer
abbrev pub UnlocksAny : LockState → Key → Result (Unit {0}) Refusal → LockState → Type 0
UnlocksAny old k (Ok done) new = (name : List ℕ) × Unlocks old k name new
UnlocksAny old k (Err refusal) new = (new ≡ untold old) × UnlockAnyRefused old k refusal

-- what a commit does, by its answer
abbrev pub Commits : LockState → Key → Result (Unit {0}) Refusal → LockState → Type 0
Commits old k (Ok done) new = Ends old k new
Commits old k (Err refusal) new = (new ≡ untold old) × (may_ask old.table k ≡ Err refusal)

-- ---- a wait that is taken back

-- k waits for nothing from now on, and owns what it owned; all else stays but the counts, and nobody is told of
pub record TakesBack (old : LockState) (k : Key) (new : LockState) : Type 0 where
  pub made : MadeWithdrawal k old.table new.table
  pub idle : (name : List ℕ) → ¬ Waits new k name
  pub owners : (h : Key) (name : List ℕ) → Owns new h name ↔ Owns old h name
  pub others : (h : Key) (name : List ℕ) → h.process ≢ k.process → Waits new h name ↔ Waits old h name
  pub state : new ≡ record (untold old) { table = new.table; totals = new.totals }

-- what a cancel does, by its answer
abbrev pub Cancels : LockState → Key → Result (Unit {0}) Refusal → LockState → Type 0
Cancels old k (Ok done) new = TakesBack old k new
Cancels old k (Err refusal) new = (new ≡ untold old) × (may_cancel old.table k ≡ Err refusal)

-- ---- abort

-- k, which waited, took back its wait and ended
abbrev pub EndsWaiting : LockState → Key → LockState → Type 0
EndsWaiting old k new = (mid : LockState) × TakesBack old k mid × Ends mid k new

-- what an abort does, by its answer: it is always done at once, and only who is not live is refused
abbrev pub Aborts : LockState → Key → Result (Unit {0}) Refusal → LockState → Type 0
Aborts old k (Ok done) new = Ends old k new ⊎ EndsWaiting old k new
Aborts old k (Err refusal) new = (new ≡ untold old) × (is_live old.table k ≡ false) × (refusal ≡ NoTransaction)
