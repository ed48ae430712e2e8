-- No request changes the numbers of the manager's table.
use Rattle.std.proofs.Common.{◌≡◌, ◌≤◌, ℕ, Bool, true, false, List, Option, Some, None, Result, Ok, Err, if◌then◌else◌, vec_capacity, inl, inr, refl, sym, ap, subst, ◌∙◌}
use Rattle.std.specs.Option.{option_map_or}
use Rattle.mm_arena.specs.declared.key.Key.{Key}
use Rattle.mm_rules.specs.TableState.{TableState, holder_of}
use Rattle.mm_rules.specs.declared.config.Config.{Config}
use Rattle.mm_rules.specs.Change.{activate, block}
use Rattle.mm_rules.specs.Event.{Begin, Settle}
use Rattle.mm_rules.specs.Withdraw.{Withdraws, renew, shown_process, shows_waiting, withdraw, withdraw_tests}
use Rattle.mm_rules.proofs.States.Config.{event_config}
use Rattle.mm_settled.specs.Calls.{MadeWithdrawal, Rests}
use Rattle.mm_settled.proofs.Lemmas.Accepted.{accepted}
use Rattle.mm_manager.specs.Calls as calls
use Rattle.mm_manager.specs.LockState.{LockState}
use Rattle.mm_manager.specs.declared.refusal.Refusal.{Refusal}
use Rattle.mm_manager.specs.declared.reply.Lock.{Lock}
use Rattle.mm_manager.specs.declared.reply.Lock.TheVariants as lock
use Rattle.mm_manager.specs.declared.reply.TryLock.{TryLock}
use Rattle.mm_manager.specs.declared.reply.TryLock.TheVariants as tried_as
use Rattle.mm_service.specs.Holds.{HasRoom}
use Rattle.mm_service.specs.Text.{Replies, RepliesKey, RepliesName}
use Rattle.mm_service.specs.declared.effect.Effect.{Effect}
use Rattle.mm_service.specs.declared.holds.Numbers.{Numbers}
use Rattle.mm_service.specs.declared.line.Request.{Request}
use Rattle.mm_service.specs.declared.line.Request.TheVariants as requests
use Rattle.mm_service.specs.declared.requests.KeyRequest.{KeyRequest}
use Rattle.mm_service.specs.declared.requests.KeyRequest.TheVariants as of_key
use Rattle.mm_service.specs.declared.requests.NameRequest.{NameRequest}
use Rattle.mm_service.specs.declared.requests.NameRequest.TheVariants as of_name

-- ---- a withdrawal

renewed_config : (s : TableState) (m : ℕ) (h : Option ℕ) → (option_map_or (λ holder. block s m holder) h s).config ≡ s.config
renewed_config s m None = refl
renewed_config s m (Some h) = refl

withdraw_config : (s : TableState) (n : ℕ) (b : Bool) → (activate (if b then renew s (shown_process s n) else s) n).config ≡ s.config
withdraw_config s n true = renewed_config s (shown_process s n) (holder_of s (shown_process s n))
withdraw_config s n false = refl

withdraws_config : (s u : TableState) (k : Key) → Withdraws k s (Ok tt) u → u.config ≡ s.config
withdraws_config s u k step =
    let n = k.process in
    let done = accepted (withdraw_tests s k) s tt (withdraw s n) tt u step in
    ap (λ (t : TableState). t.config) done.state ∙ withdraw_config s n (shows_waiting s n)

rests_config : (mid u : TableState) → Rests mid u → u.config ≡ mid.config
rests_config mid u (inl same) = ap (λ (t : TableState). t.config) same
rests_config mid u (inr settle) = event_config Settle mid u (Ok settle.0) settle.1

withdrawal_config : (s u : TableState) (k : Key) → MadeWithdrawal k s u → u.config ≡ s.config
withdrawal_config s u k made = rests_config made.mid u made.rests ∙ withdraws_config s made.mid k made.event

-- ---- the calls

pub begins_config : (old new : LockState) (answer : Result Key Refusal) → calls.Begins old answer new → new.table.config ≡ old.table.config
begins_config old new (Ok k) did = event_config Begin old.table new.table (Ok k) did.1
begins_config old new (Err refusal) did = ap (λ (m : LockState). m.table.config) did.0

pub locks_config : (old new : LockState) (k : Key) (name : List ℕ) (answer : Result Lock Refusal) → calls.LocksName old k name answer new → new.table.config ≡ old.table.config
locks_config old new k name (Ok lock.Granted) did = did.config
locks_config old new k name (Ok lock.Held) did = ap (λ (m : LockState). m.table.config) did.1
locks_config old new k name (Ok (lock.Waits h)) did = did.0.config
locks_config old new k name (Ok (lock.Deadlock h)) did = did.same.config
locks_config old new k name (Err refusal) did = ap (λ (m : LockState). m.table.config) did.0

tries_config : (old new : LockState) (k : Key) (name : List ℕ) (answer : Result TryLock Refusal) → calls.TriesName old k name answer new → new.table.config ≡ old.table.config
tries_config old new k name (Ok tried_as.Granted) did = did.config
tries_config old new k name (Ok tried_as.Held) did = ap (λ (m : LockState). m.table.config) did.1
tries_config old new k name (Ok (tried_as.Busy h)) did = ap (λ (m : LockState). m.table.config) did.2
tries_config old new k name (Err refusal) did = ap (λ (m : LockState). m.table.config) did.0

unlocks_config : (old new : LockState) (k : Key) (name : List ℕ) (answer : Result (Unit {0}) Refusal) → calls.UnlocksName old k name answer new → new.table.config ≡ old.table.config
unlocks_config old new k name (Ok done) did = did.passes.config
unlocks_config old new k name (Err refusal) did = ap (λ (m : LockState). m.table.config) did.0

ends_config : (old new : LockState) (k : Key) → calls.Ends old k new → new.table.config ≡ old.table.config
ends_config old new k did = did.passes.config

commits_config : (old new : LockState) (k : Key) (answer : Result (Unit {0}) Refusal) → calls.Commits old k answer new → new.table.config ≡ old.table.config
commits_config old new k (Ok done) did = ends_config old new k did
commits_config old new k (Err refusal) did = ap (λ (m : LockState). m.table.config) did.0

pub aborts_config : (old new : LockState) (k : Key) (answer : Result (Unit {0}) Refusal) → calls.Aborts old k answer new → new.table.config ≡ old.table.config
aborts_config old new k (Ok done) (inl did) = ends_config old new k did
aborts_config old new k (Ok done) (inr (mid, back, did)) = ends_config mid new k did ∙ withdrawal_config old.table mid.table k back.made
aborts_config old new k (Err refusal) did = ap (λ (m : LockState). m.table.config) did.0

pub cancels_config : (old new : LockState) (k : Key) (answer : Result (Unit {0}) Refusal) → calls.Cancels old k answer new → new.table.config ≡ old.table.config
cancels_config old new k (Ok done) back = withdrawal_config old.table new.table k back.made
cancels_config old new k (Err refusal) did = ap (λ (m : LockState). m.table.config) did.0

-- ---- the requests

pub name_config : (request : NameRequest) (k : Key) (name reply : List ℕ) (effect : Effect) (old new : LockState) → RepliesName request k name old reply effect new → new.table.config ≡ old.table.config
name_config of_name.Lock k name reply effect old new (answer, did, text, came) = locks_config old new k name answer did.locks
name_config of_name.Try k name reply effect old new (answer, did, text, came) = tries_config old new k name answer did.tries
name_config of_name.Unlock k name reply effect old new (answer, did, text, came) = unlocks_config old new k name answer did.unlocks

pub key_config : (request : KeyRequest) (k : Key) (reply : List ℕ) (effect : Effect) (old new : LockState) → RepliesKey request k old reply effect new → new.table.config ≡ old.table.config
key_config of_key.Commit k reply effect old new (answer, did, text, came) = commits_config old new k answer did.commits
key_config of_key.Abort k reply effect old new (answer, did, text, came) = aborts_config old new k answer did.aborts
key_config of_key.Cancel k reply effect old new (answer, did, text, came) = cancels_config old new k answer did.cancels
key_config of_key.Status k reply effect old new (answer, told, same, text, came) = ap (λ (m : LockState). m.table.config) same

pub replies_config : (request : Request) (name reply : List ℕ) (effect : Effect) (old new : LockState) → Replies request name old reply effect new → new.table.config ≡ old.table.config
replies_config requests.Begin name reply effect old new (answer, did, text, came) = begins_config old new answer did.begins
replies_config (requests.OfName request k) name reply effect old new did = name_config request k name reply effect old new did
replies_config (requests.OfKey request k) name reply effect old new did = key_config request k reply effect old new did
replies_config (requests.Holds k) name reply effect old new (text, same, came) = ap (λ (m : LockState). m.table.config) same
replies_config requests.Owner name reply effect old new (text, same, came) = ap (λ (m : LockState). m.table.config) same
replies_config requests.Graph name reply effect old new (text, same, came) = ap (λ (m : LockState). m.table.config) same
replies_config requests.Totals name reply effect old new (text, same, came) = ap (λ (m : LockState). m.table.config) same

-- so there is room for the numbers of its names still
pub keeps_room : (old new : LockState) (numbers : Numbers) → new.table.config ≡ old.table.config → HasRoom old numbers → HasRoom new numbers
keeps_room old new numbers same room = subst (λ (c : Config). (c.resources ≤ vec_capacity numbers.owned) × (1024 ≤ vec_capacity numbers.part)) (sym same) room
