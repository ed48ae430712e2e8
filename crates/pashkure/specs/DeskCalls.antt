-- What the calls of a desk do: each what the call of a desk of mm_desk does, whole, and its answer as a number.
use Rattle.std.specs.Prelude.{◌≡◌, ◌≢◌, ◌⊎◌, ◌≤◌, ℕ, List, ◌++◌, length, take, drop, Option, Some, None, Result, if◌then◌else◌, nat_eq}
use Rattle.mm_arena.specs.declared.key.Key.{Key}
use Rattle.mm_manager.specs.declared.refusal.Refusal.{Refusal}
use Rattle.mm_desk.specs.declared.reply.Adopted.{Adopted}
use Rattle.mm_desk.specs.declared.reply.Asked.{Asked}
use Rattle.mm_desk.specs.declared.reply.Tried.{Tried}
use Rattle.mm_desk.specs.declared.reply.Unlocked.{Unlocked}
use Rattle.mm_desk.specs.All.{AdoptsBelow, FreesBelow}
use Rattle.mm_desk.specs.Calls.{AbortsAt, AsksAt, BeginsAt, CancelsAt, CommitsAt, HasNoNames, KeepsFat, KeepsManager, ListsOwned, RefusesOne, TriesAt, UnlocksAt}
use Rattle.mm_thin.specs.Calls.{AddsWorker, GivesBack, GivesSomeUp}
use Rattle.mm_thin.specs.Parts.{WorkerState}
use Rattle.mm_thin.specs.Opening.{Opens}
use Rattle.mm_desk.specs.Opening.{thin_config}
use Rattle.mm_desk.specs.declared.opening.DeskConfig.{DeskConfig}
use Rattle.mm_thin.specs.declared.config.TheConstants.ThinConfig.{MAX_BUCKETS}
use Rattle.mm_thin.specs.declared.reply.GiveUp.TheVariants.{Done}
use Rattle.pashkure.specs.Answer.{begin_number, done_number}
use Rattle.pashkure.specs.Calls.{begun_key}
use Rattle.pashkure.specs.DeskAnswer.{adopted_number, asked_number, ended_number, tried_number, unlocked_number}
use Rattle.pashkure.specs.DeskOwning.{desk_word}
use Rattle.pashkure.specs.Hall.{HallState}
use Rattle.pashkure.specs.Opening.{config_fault, is_out}
use Rattle.pashkure.specs.WorkerCalls.{HasWorker}
use Rattle.pashkure.specs.declared.desk_handle.DeskHandle.{DeskHandle}
use Rattle.pashkure.specs.declared.plain.PlainConfig.{PlainConfig}
use Rattle.pashkure.specs.declared.plain.PlainKey.{PlainKey}
use Rattle.pashkure.specs.declared.worker_handle.WorkerHandle.{WorkerHandle}

-- the handle has a desk
abbrev pub HasDesk : DeskHandle → Type 0
HasDesk h = h.state ≡ desk_word

-- ---- the opening

-- the number of the first fault: of the configuration, or else of the number of buckets; 0 if there is none
abbrev pub desk_fault : PlainConfig → ℕ → ℕ
desk_fault c buckets = if nat_eq (config_fault c) 0 then (if is_out buckets MAX_BUCKETS then 40 else 0) else config_fault c

-- nobody owns a name; all buckets are free, and as many as asked for, by the hash of the seed; and there is room for this many names
pub record IsNew (config : DeskConfig) (h : HallState) : Type 0 where
  pub free : HasNoNames h.desk.manager
  pub thin : Opens (thin_config config) h.desk.office
  pub room : config.manager.names ≤ h.room

-- the manager stays, and so do the keys and the room
pub record KeepsRest (old new : HallState) : Type 0 where
  pub manager : new.desk.manager ≡ old.desk.manager
  pub keys : new.desk.keys ≡ old.desk.keys
  pub room : new.room ≡ old.room

-- a worker more; or none, since there are as many as there can be, or since there is no memory, and then the desk may have one that nobody has
abbrev pub TellsAddWorker : HallState → WorkerHandle → ℕ → HallState → WorkerHandle → Type 0
TellsAddWorker old before told new after =
    KeepsRest old new
    × (((told ≡ 0) × HasWorker after × AddsWorker old.desk.office after.held new.desk.office)
    ⊎ ((told ≡ 23) × (old.desk.office.workers ≡ old.desk.office.max_workers) × (new ≡ old) × (after ≡ before))
    ⊎ ((told ≡ 39) × (old.desk.office.workers ≢ old.desk.office.max_workers) × (after ≡ before) × ((new ≡ old) ⊎ ((lost : WorkerState) × AddsWorker old.desk.office lost new.desk.office))))

-- ---- requests

abbrev pub TellsAskAt : HallState → ℕ → List ℕ → ℕ → HallState → Type 0
TellsAskAt old at name told new = (answer : Result Asked Refusal) × (told ≡ asked_number answer) × AsksAt old.desk at name answer new.desk × (new.room ≡ old.room)

abbrev pub TellsTryAt : HallState → ℕ → List ℕ → ℕ → HallState → Type 0
TellsTryAt old at name told new = (answer : Result Tried Refusal) × (told ≡ tried_number answer) × TriesAt old.desk at name answer new.desk × (new.room ≡ old.room)

-- ---- ends

-- a name is given back: by the worker alone; or by the desk, after the worker has let go what is fat
abbrev pub GivesNameBack : HallState → WorkerState → List ℕ → Option (Result Unlocked Refusal) → HallState → WorkerState → Type 0
GivesNameBack old w name None new after = GivesBack w name Done after × (new ≡ old)
GivesNameBack old w name (Some answer) new after = GivesSomeUp w after × UnlocksAt old.desk w.at name answer new.desk × (new.room ≡ old.room)

abbrev pub TellsUnlockAt : HallState → WorkerState → List ℕ → ℕ → HallState → WorkerState → Type 0
TellsUnlockAt old w name told new after = (answer : Option (Result Unlocked Refusal)) × (told ≡ unlocked_number answer) × GivesNameBack old w name answer new after

abbrev pub TellsCommitAt : HallState → ℕ → ℕ → HallState → Type 0
TellsCommitAt old at told new = (answer : Result Unlocked Refusal) × (told ≡ ended_number answer) × CommitsAt old.desk at old.room answer new.desk × (new.room ≡ old.room)

abbrev pub TellsAbortAt : HallState → ℕ → ℕ → HallState → Type 0
TellsAbortAt old at told new = (answer : Result Unlocked Refusal) × (told ≡ ended_number answer) × AbortsAt old.desk at old.room answer new.desk × (new.room ≡ old.room)

abbrev pub TellsCancelAt : HallState → ℕ → ℕ → HallState → Type 0
TellsCancelAt old at told new =
    (answer : Result (Unit {0}) Refusal) × (told ≡ done_number answer) × CancelsAt old.desk at answer new.desk × (new.desk.office ≡ old.desk.office) × (new.desk.keys ≡ old.desk.keys) × (new.room ≡ old.room)

abbrev pub TellsBeginAt : HallState → ℕ → PlainKey → ℕ → PlainKey → HallState → Type 0
TellsBeginAt old at written told key new =
    (answer : Result Key Refusal) × (told ≡ begin_number answer) × (key ≡ begun_key answer written) × BeginsAt old.desk at answer new.desk × (new.room ≡ old.room)

-- ---- what a worker's transaction owns

-- a room after as many of these numbers as it has room for were written to its head
abbrev pub headed : List ℕ → List ℕ → List ℕ
headed numbers room = take (length room) numbers ++ drop (length numbers) room

-- how many names it owns in the manager, and their numbers as far as there is room
abbrev pub TellsOwned : HallState → ℕ → List ℕ → ℕ → List ℕ → Type 0
TellsOwned h at room told new = (numbers : List ℕ) × ListsOwned h.desk at h.room numbers × (told ≡ length numbers) × (new ≡ headed numbers room)

-- ---- all buckets

abbrev pub TellsAdoptAll : HallState → ℕ → HallState → Type 0
TellsAdoptAll old told new =
    (answer : Adopted) × (told ≡ adopted_number answer) × AdoptsBelow old.desk.office.of.table.words answer new.desk × KeepsFat old.desk new.desk × RefusesOne old.desk answer new.desk × (new.room ≡ old.room)

abbrev pub FreesAll : HallState → HallState → Type 0
FreesAll old new = FreesBelow old.desk old.desk.office.of.table.words new.desk × KeepsManager old.desk new.desk × (new.room ≡ old.room)
