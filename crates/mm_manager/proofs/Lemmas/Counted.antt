-- No count passes that of the table's events: each call counts an event for itself at the least.
use Rattle.std.proofs.Common.{◌≡◌, ◌⊎◌, ◌≤◌, ◌<◌, ◌+◌, ◌^◌, ℕ, Some, List, Result, Ok, Err, IfOk, OnOk, OnErr, inl, inr, ap, arith}
use Rattle.mm_arena.specs.declared.key.Key.{Key}
use Rattle.mm_names.specs.Names.{NameTable, name_of}
use Rattle.mm_rules.specs.declared.reply.Acquired.TheVariants as acquired
use Rattle.mm_rules.specs.TableState.{TableState, owner_of}
use Rattle.mm_rules.specs.Event.{Event, Begin, Acquire, Release, Finish, Settle, Answer, Step}
use Rattle.mm_rules.proofs.States.Counts.{event_counts}
use Rattle.mm_rules.proofs.States.WithdrawLaws.{withdraw_counts}
use Rattle.mm_settled.specs.Calls.{Made, MadeWithdrawal, Rests, WaitsFrom}
use Rattle.mm_manager.specs.Calls.{AdoptsNumber, Tries}
use Rattle.mm_manager.specs.Totals.{all_of, after_begin, after_lock, after_commit, after_abort, after_cancel}
use Rattle.mm_manager.specs.declared.named.NamedTable.{NamedTable}
use Rattle.mm_manager.specs.declared.refusal.Refusal.{Refusal}
use Rattle.mm_manager.specs.declared.reply.Lock.{Lock}
use Rattle.mm_manager.specs.declared.reply.Lock.TheVariants as lock
use Rattle.mm_manager.specs.declared.reply.TryLock.{TryLock}
use Rattle.mm_manager.specs.declared.reply.TryLock.TheVariants as tried
use Rattle.mm_manager.specs.declared.totals.Totals.{Totals}
use Rattle.mm_manager.specs.private.Handed.{HandsOver, HandsAllOver, EndsWaiting, IsUntouched}
use Rattle.mm_manager.specs.private.Requests.{Requested}
use Rattle.mm_manager.specs.private.Room.{HasReserve}

-- ---- the events of a call

rests_counted : (mid u : TableState) → Rests mid u → mid.totals.accepted ≤ u.totals.accepted
rests_counted mid u (inl same) = omega (arith, ap (λ (t : TableState). t.totals.accepted) same)
rests_counted mid u (inr (answer, step)) = omega (arith, (event_counts Settle mid u (Ok answer) step).0)

made_counted : (e : Event) (s u : TableState) (answer : Answer e) → Made e s answer u → s.totals.accepted + 1 ≤ u.totals.accepted
made_counted e s u answer made = omega (arith, rests_counted made.mid u made.rests, (event_counts e s made.mid (Ok answer) made.event).0)

withdrawal_counted : (s u : TableState) (k : Key) → MadeWithdrawal k s u → s.totals.accepted + 1 ≤ u.totals.accepted
withdrawal_counted s u k made = omega (arith, rests_counted made.mid u made.rests, (withdraw_counts k s made.mid (Ok tt) made.event).0.0)

-- ---- a begin and a request

pub begin_counted : (t : Totals) (s u : TableState) (answer : Result Key Refusal) → all_of t ≤ s.totals.accepted → IfOk answer (λ key. Step Begin s (Ok key) u) → OnErr answer (u ≡ s) → all_of (after_begin t answer) ≤ u.totals.accepted
begin_counted t s u (Ok key) below step same = omega (arith, below, (event_counts Begin s u (Ok key) step).0)
begin_counted t s u (Err e) below step same = omega (arith, below, ap (λ (v : TableState). v.totals.accepted) same)

waits_counted : (s u : TableState) (k h : Key) (n : ℕ) → WaitsFrom s k n h u → s.totals.accepted + 2 ≤ u.totals.accepted
waits_counted s u k h n from =
    omega (arith, (event_counts (Acquire k n) s from.mid (Ok (acquired.Waits h from.label)) from.event).0, (event_counts Settle from.mid u (Ok from.answer) from.settle).0)

pub lock_counted : (t : Totals) (s u : TableState) (names named : NameTable) (k : Key) (name : List ℕ) (reply : Result Lock Refusal) → all_of t ≤ s.totals.accepted
    → Requested s names t k name reply u named → all_of (after_lock t reply) ≤ u.totals.accepted
lock_counted t s u names named k name (Ok lock.Granted) below (may, asks) = omega (arith, below, (event_counts (Acquire k asks.0) s u (Ok acquired.Granted) asks.2).0)
lock_counted t s u names named k name (Ok lock.Held) below (may, asks) = omega (arith, below, ap (λ (v : TableState). v.totals.accepted) asks.1)
lock_counted t s u names named k name (Ok (lock.Waits h)) below (may, asks) = omega (arith, below, waits_counted s u k h asks.1.0 asks.1.2.0)
lock_counted t s u names named k name (Ok (lock.Deadlock h)) below (may, asks) =
    omega (arith, below, waits_counted s asks.1.2.settled k h asks.1.0 asks.1.2.waited, ap (λ (v : TableState). v.totals.accepted) asks.1.2.back)
lock_counted t s u names named k name (Err e) below (refused, same, kept) = omega (arith, below, ap (λ (v : TableState). v.totals.accepted) same)

pub try_counted : (t : Totals) (s u : TableState) (names named : NameTable) (k : Key) (name : List ℕ) (reply : Result TryLock Refusal) → all_of t ≤ s.totals.accepted
    → IfOk reply (λ answer. Tries s names k name answer u named) → OnErr reply (u ≡ s) → all_of t ≤ u.totals.accepted
try_counted t s u names named k name (Ok tried.Granted) below asks same = omega (arith, below, (event_counts (Acquire k asks.0) s u (Ok acquired.Granted) asks.2).0)
try_counted t s u names named k name (Ok tried.Held) below asks same = omega (arith, below, ap (λ (v : TableState). v.totals.accepted) asks.1)
try_counted t s u names named k name (Ok (tried.Busy h)) below asks same = omega (arith, below, ap (λ (v : TableState). v.totals.accepted) asks.1.1)
try_counted t s u names named k name (Err e) below asks same = omega (arith, below, ap (λ (v : TableState). v.totals.accepted) same)

-- an adoption is no event
pub adoption_counted : (t : Totals) (s u : TableState) (names named : NameTable) (k : Key) (name : List ℕ) (reply : Result TryLock Refusal) → all_of t ≤ s.totals.accepted
    → IfOk reply (λ answer. AdoptsNumber s names k name answer u named) → OnErr reply (u ≡ s) → all_of t ≤ u.totals.accepted
adoption_counted t s u names named k name (Ok tried.Granted) below adopts same = omega (arith, below, ap (λ (v : TableState). v.totals.accepted) adopts.2.state)
adoption_counted t s u names named k name (Ok tried.Held) below found same = omega (arith, below, ap (λ (v : TableState). v.totals.accepted) found.1)
adoption_counted t s u names named k name (Ok (tried.Busy h)) below found same = omega (arith, below, ap (λ (v : TableState). v.totals.accepted) found.1.1)
adoption_counted t s u names named k name (Err e) below adopts same = omega (arith, below, ap (λ (v : TableState). v.totals.accepted) same)

-- ---- an unlock and the ends

module _ (t : Totals) (old new : NamedTable) (k : Key) (below : all_of t ≤ old.table.table.totals.accepted) where
  pub unlock_counted : (name : List ℕ) (done : Result (Unit {0}) Refusal)
      → OnOk done ((n : ℕ) × (name_of old.names n ≡ Some name) × (owner_of old.table.table n ≡ Some k) × HandsOver k n old new) → OnErr done (IsUntouched old new)
      → all_of t ≤ new.table.table.totals.accepted
  unlock_counted name (Ok x) (n, is, owned, (answer, made, follows)) same = omega (arith, below, made_counted (Release k n) old.table.table new.table.table answer made)
  unlock_counted name (Err e) handed same = omega (arith, below, ap (λ (v : TableState). v.totals.accepted) same.table)

  pub commit_counted : (done : Result (Unit {0}) Refusal) → OnOk done (HandsAllOver k old new) → OnErr done (IsUntouched old new) → all_of (after_commit t done) ≤ new.table.table.totals.accepted
  commit_counted (Ok x) (made, follows) same = omega (arith, below, made_counted (Finish k) old.table.table new.table.table tt made)
  commit_counted (Err e) handed same = omega (arith, below, ap (λ (v : TableState). v.totals.accepted) same.table)

  pub abort_counted : (done : Result (Unit {0}) Refusal) → OnOk done (HandsAllOver k old new ⊎ EndsWaiting k old new) → OnErr done (IsUntouched old new) → all_of (after_abort t done) ≤ new.table.table.totals.accepted
  abort_counted (Ok x) (inl (made, follows)) same = omega (arith, below, made_counted (Finish k) old.table.table new.table.table tt made)
  abort_counted (Ok x) (inr ends) same =
      omega (arith, below, withdrawal_counted old.table.table ends.mid.table.table k ends.made, made_counted (Finish k) ends.mid.table.table new.table.table tt ends.over.0)
  abort_counted (Err e) handed same = omega (arith, below, ap (λ (v : TableState). v.totals.accepted) same.table)

  pub cancel_counted : (done : Result (Unit {0}) Refusal) → OnOk done (MadeWithdrawal k old.table.table new.table.table) → OnErr done (new.table.table ≡ old.table.table) → all_of (after_cancel t done) ≤ new.table.table.totals.accepted
  cancel_counted (Ok x) made same = omega (arith, below, withdrawal_counted old.table.table new.table.table k made)
  cancel_counted (Err e) made same = omega (arith, below, ap (λ (v : TableState). v.totals.accepted) same)

-- ---- no count overflows

pub counts_fit : (t : Totals) (s : TableState) → all_of t ≤ s.totals.accepted → HasReserve s → all_of t < 2 ^ 64
counts_fit t s below reserve = omega (arith, below, reserve.events)
