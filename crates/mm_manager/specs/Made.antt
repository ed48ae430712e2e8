-- All that the contract of a call says, in one record a call, by the answer. A crate above that makes the call for its own caller cites the record.
use Rattle.std.specs.Prelude.{◌≡◌, ◌≢◌, ℕ, false, List, [], Result, Ok, IfOk, OnOk}
use Rattle.mm_arena.specs.declared.key.Key.{Key}
use Rattle.mm_manager.specs.LockState.{LockState, has_all}
use Rattle.mm_manager.specs.Calls.{Begins, LocksName, TriesName, Requests, Tries, UnlocksName, UnlocksAny, Commits, Aborts, Cancels}
use Rattle.mm_manager.specs.Permit.{may_request}
use Rattle.mm_manager.specs.Totals.{after_begin, after_lock, after_commit, after_abort, after_cancel}
use Rattle.mm_manager.specs.declared.refusal.Refusal.{Refusal}
use Rattle.mm_manager.specs.declared.reply.Lock.{Lock}
use Rattle.mm_manager.specs.declared.reply.Lock.TheVariants as lock
use Rattle.mm_manager.specs.declared.reply.TryLock.{TryLock}
use Rattle.mm_manager.specs.declared.reply.TryLock.TheVariants as tried

pub record Begun (old : LockState) (answer : Result Key Refusal) (new : LockState) : Type 0 where
  pub begins : Begins old answer new
  pub totals : new.totals ≡ after_begin old.totals answer

pub record Locked (old : LockState) (k : Key) (name : List ℕ) (answer : Result Lock Refusal) (new : LockState) : Type 0 where
  pub locks : LocksName old k name answer new
  pub may : OnOk answer (may_request old.table old.names.name_bytes k name ≡ Ok tt)
  pub room : IfOk answer (λ got. got ≢ lock.Held → has_all old k ≡ false)
  pub step : IfOk answer (λ got. Requests old.table old.names old.totals k name got new.table new.names)
  pub granted : new.granted ≡ []
  pub totals : new.totals ≡ after_lock old.totals answer

pub record Tried (old : LockState) (k : Key) (name : List ℕ) (answer : Result TryLock Refusal) (new : LockState) : Type 0 where
  pub tries : TriesName old k name answer new
  pub may : OnOk answer (may_request old.table old.names.name_bytes k name ≡ Ok tt)
  pub room : IfOk answer (λ got. got ≢ tried.Held → has_all old k ≡ false)
  pub step : IfOk answer (λ got. Tries old.table old.names k name got new.table new.names)
  pub granted : new.granted ≡ []
  pub totals : new.totals ≡ old.totals

pub record Unlocked (old : LockState) (k : Key) (name : List ℕ) (answer : Result (Unit {0}) Refusal) (new : LockState) : Type 0 where
  pub unlocks : UnlocksName old k name answer new
  pub totals : new.totals ≡ old.totals

pub record UnlockedAny (old : LockState) (k : Key) (answer : Result (Unit {0}) Refusal) (new : LockState) : Type 0 where
  pub unlocks : UnlocksAny old k answer new
  pub totals : new.totals ≡ old.totals

pub record Committed (old : LockState) (k : Key) (answer : Result (Unit {0}) Refusal) (new : LockState) : Type 0 where
  pub commits : Commits old k answer new
  pub totals : new.totals ≡ after_commit old.totals answer

pub record Aborted (old : LockState) (k : Key) (answer : Result (Unit {0}) Refusal) (new : LockState) : Type 0 where
  pub aborts : Aborts old k answer new
  pub totals : new.totals ≡ after_abort old.totals answer

pub record Cancelled (old : LockState) (k : Key) (answer : Result (Unit {0}) Refusal) (new : LockState) : Type 0 where
  pub cancels : Cancels old k answer new
  pub totals : new.totals ≡ after_cancel old.totals answer
