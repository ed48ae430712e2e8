-- What each request leaves of a transaction that it does not name.
use Rattle.std.proofs.Common.{◌≡◌, ◌≢◌, ℕ, true, List, Some, None, Result, Ok, Err, slice_index, slice_index_or, inl, inr, refl, sym, ap, subst, ◌∙◌}
use Rattle.mm_arena.specs.declared.key.Key.{Key}
use Rattle.mm_names.specs.Names.{name_of}
use Rattle.mm_rules.specs.declared.reply.Acquired.TheVariants as acquired
use Rattle.mm_rules.specs.TableState.{TableState, key_of, is_live, owner_of, wait_of, waited_for}
use Rattle.mm_rules.specs.Event.{Begin, Acquire, Step, Settle, begin_tests}
use Rattle.mm_rules.specs.Laws.{Laws}
use Rattle.mm_rules.proofs.States.Begin.{made_live}
use Rattle.mm_rules.proofs.States.EventsKeepLaws.{event_keeps}
use Rattle.mm_rules.proofs.States.WithdrawLaws.{withdraw_keeps_laws}
use Rattle.mm_settled.specs.Calls.{MadeWithdrawal, Rests, WaitsFrom}
use Rattle.mm_settled.proofs.Lemmas.Accepted.{accepted}
use Rattle.mm_manager.specs.Calls.{Gets, Queues, IsDeclined, LosesName, LosesAll, Unlocks, Ends, TakesBack, Aborts, Cancels, UnlocksAny}
use Rattle.mm_manager.specs.LockState.{LockState, Owns, IsLawful}
use Rattle.mm_manager.specs.declared.refusal.Refusal.{Refusal}
use Rattle.mm_manager.specs.declared.reply.Lock.{Lock}
use Rattle.mm_manager.specs.declared.reply.Lock.TheVariants as lock
use Rattle.mm_manager.specs.declared.reply.TryLock.{TryLock}
use Rattle.mm_manager.specs.declared.reply.TryLock.TheVariants as tried_as
use Rattle.mm_manager.specs.Permit.{first_refusal, may_ask, may_count, may_name, may_request}
use Rattle.mm_manager.proofs.Lemmas.May.{asks}
use Rattle.mm_manager.proofs.Lemmas.Requests.{one_key}
use Rattle.mm_service.specs.declared.requests.KeyRequest.{KeyRequest}
use Rattle.mm_service.specs.declared.requests.KeyRequest.TheVariants as of_key
use Rattle.mm_service.specs.declared.requests.NameRequest.{NameRequest}
use Rattle.mm_service.specs.declared.requests.NameRequest.TheVariants as of_name
use Rattle.mm_manager.specs.Made.{Begun, Locked, Tried}
use Rattle.mm_service.specs.Text.{RepliesName, RepliesKey}
use Rattle.mm_service.specs.declared.effect.Effect.{Effect}
use Rattle.mm_service.specs.declared.line.Request.TheVariants as requests
use Rattle.mm_apart.specs.Apart.{IsLeft, OthersAreLeft}
use Rattle.mm_apart.proofs.Lemmas.Slots.{same_live}
use Rattle.mm_apart.proofs.Lemmas.Events.{begun_live, acquired_same, released_same, finished_same, released_was_live, finished_was_live, withdrawn_was_live, withdrawal_live, rests_live}
use Rattle.mm_apart.proofs.Lemmas.Left.{untold_left, as_it_was, left_left, passes_left}

-- the laws after a wait was taken back
rests_laws : (mid u : TableState) → Laws mid → Rests mid u → Laws u
rests_laws mid u laws (inl same) = subst (λ (x : TableState). Laws x) (sym same) laws
rests_laws mid u laws (inr settle) = (event_keeps Settle mid u (Ok settle.0) settle.1 laws).laws

pub withdrawal_laws : (old new : LockState) (k : Key) → IsLawful old → MadeWithdrawal k old.table new.table → Laws new.table
withdrawal_laws old new k lawful made = rests_laws made.mid new.table (withdraw_keeps_laws k old.table made.mid (Ok tt) made.event lawful.laws lawful.rest) made.rests

-- two live transactions have two processes
apart_by : (s : TableState) (k t : Key) → is_live s k ≡ true → is_live s t ≡ true → ¬ (k ≡ t) → t.process ≢ k.process
apart_by s k t live_k live_t apart same = apart (sym (one_key s t k live_t live_k same))

-- who may ask for a name is live
passed_first : (a b : Result (Unit {0}) Refusal) → first_refusal a b ≡ Ok tt → a ≡ Ok tt
passed_first (Ok tt) b may = refl
passed_first (Err refusal) b may = (let never : Err refusal ≡ Ok tt = may in absurd (cc))

request_live : (s : TableState) (bytes : ℕ) (k : Key) (name : List ℕ) → may_request s bytes k name ≡ Ok tt → is_live s k ≡ true
request_live s bytes k name may = (asks s k (passed_first (may_ask s k) (first_refusal (may_count s) (may_name bytes name)) may)).live

-- ---- begin

begun_left : (old new : LockState) (k t : Key) → is_live old.table t ≡ true → Step Begin old.table (Ok k) new.table → new.names ≡ old.names → IsLeft old t new
begun_left old new k t live step names =
    let s = old.table in
    let n = slice_index s.free 0 in
    let done = accepted (begin_tests s) s (key_of s n) (made_live s n) k new.table step in
    let owner : (q : ℕ) → owner_of new.table q ≡ owner_of s q = λ q. ap (λ (v : TableState). owner_of v q) done.state in
    let wait : wait_of new.table t.process ≡ wait_of s t.process = ap (λ (v : TableState). wait_of v t.process) done.state in
    let name : (q : ℕ) → name_of new.names q ≡ name_of old.names q = λ q. ap (λ v. name_of v q) names in
    record {
      live = begun_live s new.table k t step live;
      owns = λ other own. (own.0, name own.0 ∙ own.1, owner own.0 ∙ own.2);
      gains = λ other own. inl (own.0, sym (name own.0) ∙ own.1, sym (owner own.0) ∙ own.2);
      waited = λ other waits. inl (waits.0, name waits.0 ∙ waits.1, wait ∙ waits.2);
      waits = λ other waits. (waits.0, sym (name waits.0) ∙ waits.1, sym wait ∙ waits.2);
    }

pub begun : (old new : LockState) (t : Key) (answer : Result Key Refusal) → Begun old answer new → is_live old.table t ≡ true → IsLeft old t new
begun old new t (Ok k) did live =
    begun_left old new k t live did.begins.1 (ap (λ (m : LockState). m.names) did.begins.2)
begun old new t (Err refusal) did live = untold_left old new t live did.begins.0

-- ---- a name is asked for

module _ (old new : LockState) (k t : Key) (name : List ℕ) (lawful : IsLawful new) (live : is_live new.table t ≡ true) (apart : ¬ (k ≡ t)) where
  gets_left : Gets old k name new → IsLeft old t new
  gets_left gets = record {
    live = live;
    owns = λ other own. (gets.others t other (λ same. gets.free t (subst (λ x. Owns old t x) same own))).1 own;
    gains = λ other own. inl ((gets.others t other (λ same.
        let number : gets.owns.0 ≡ own.0 = lawful.names.distinct gets.owns.0 own.0 name gets.owns.1 (own.1 ∙ ap Some same) in
        let both : Some k ≡ Some t = sym gets.owns.2 ∙ ap (owner_of new.table) number ∙ own.2 in
        apart (cc))).0 own);
    waited = λ other waits. inl ((gets.waits t other).1 waits);
    waits = λ other waits. (gets.waits t other).0 waits;
  }

  queues_left : (h : Key) → t.process ≢ k.process → Queues old k name h new → IsLeft old t new
  queues_left h other_process queues = record {
    live = live;
    owns = λ other own. (queues.owners t other).1 own;
    gains = λ other own. inl ((queues.owners t other).0 own);
    waited = λ other waits. inl ((queues.others t other other_process).1 waits);
    waits = λ other waits. (queues.others t other other_process).0 waits;
  }

-- a request that is declined leaves all
declined_left : (old new : LockState) (k t : Key) (name : List ℕ) (h : Key) → is_live old.table t ≡ true → IsDeclined old k name h new → IsLeft old t new
declined_left old new k t name h live declined =
    let same = declined.same in
    let named : (n : ℕ) → name_of new.names n ≡ name_of old.names n = λ n. ap (λ (m : LockState). name_of m.names n) declined.state in
    let owned : (n : ℕ) → owner_of new.table n ≡ owner_of old.table n = λ n. ap (λ os. slice_index_or os n None) same.owners in
    let wait : wait_of new.table t.process ≡ wait_of old.table t.process = ap (λ ws. waited_for ws t.process) same.waits in
    record {
      live = rw (same.live, same.generations) live;
      owns = λ other own. (own.0, named own.0 ∙ own.1, owned own.0 ∙ own.2);
      gains = λ other own. inl (own.0, sym (named own.0) ∙ own.1, sym (owned own.0) ∙ own.2);
      waited = λ other waits. inl (waits.0, named waits.0 ∙ waits.1, wait ∙ waits.2);
      waits = λ other waits. (waits.0, sym (named waits.0) ∙ waits.1, sym wait ∙ waits.2);
    }

-- who waits now
queued_live : (s u : TableState) (k t : Key) (r : ℕ) (h : Key) → WaitsFrom s k r h u → is_live u t ≡ is_live s t
queued_live s u k t r h from = rests_live s from.mid u t (inr (from.answer, from.settle)) (acquired_same t.process s from.mid k r (acquired.Waits h from.label) from.event)

granted_live : (s u : TableState) (k t : Key) (r : ℕ) → Step (Acquire k r) s (Ok acquired.Granted) u → is_live u t ≡ is_live s t
granted_live s u k t r step = same_live s u t (acquired_same t.process s u k r acquired.Granted step)

module _ (old new : LockState) (k t : Key) (name : List ℕ) (lawful : IsLawful new) (live : is_live old.table t ≡ true) (apart : ¬ (k ≡ t)) where
  pub locked : (answer : Result Lock Refusal) → Locked old k name answer new → IsLeft old t new
  locked (Ok lock.Granted) did = gets_left old new k t name lawful (granted_live old.table new.table k t did.step.0 did.step.2 ∙ live) apart did.locks
  locked (Ok lock.Held) did = untold_left old new t live did.locks.1
  locked (Ok (lock.Waits h)) did =
      let other = apart_by old.table k t (request_live old.table old.names.name_bytes k name did.may) live apart in
      queues_left old new k t name lawful (queued_live old.table new.table k t did.step.1.0 h did.step.1.2.0 ∙ live) apart h other did.locks.0
  locked (Ok (lock.Deadlock h)) did = declined_left old new k t name h live did.locks
  locked (Err refusal) did = untold_left old new t live did.locks.0

  tries : (answer : Result TryLock Refusal) → Tried old k name answer new → IsLeft old t new
  tries (Ok tried_as.Granted) did = gets_left old new k t name lawful (granted_live old.table new.table k t did.step.0 did.step.2 ∙ live) apart did.tries
  tries (Ok tried_as.Held) did = untold_left old new t live did.tries.1
  tries (Ok (tried_as.Busy h)) did = untold_left old new t live did.tries.2
  tries (Err refusal) did = untold_left old new t live did.tries.0

-- ---- hand-overs

module _ (old new : LockState) (k t : Key) (laws : Laws old.table) (after : Laws new.table) (live : is_live old.table t ≡ true) (apart : ¬ (k ≡ t)) where
  unlocks_left : (name : List ℕ) → Unlocks old k name new → IsLeft old t new
  unlocks_left name did =
      let made = did.over.made in
      let other = apart_by old.table k t (released_was_live old.table made.mid k did.number did.answer made.event) live apart in
      let still = rests_live old.table made.mid new.table t made.rests (released_same t.process old.table made.mid k did.number did.answer laws made.event) ∙ live in
      passes_left old new k t (LosesName k name) after still did.over.granted did.passes other (λ other_name lost. apart (sym lost.0))

  ends_left : Ends old k new → IsLeft old t new
  ends_left did =
      let made = did.over.made in
      let other = apart_by old.table k t (finished_was_live old.table made.mid k made.event) live apart in
      let still = rests_live old.table made.mid new.table t made.rests (finished_same t.process old.table made.mid k laws made.event other) ∙ live in
      passes_left old new k t (LosesAll k) after still did.over.granted did.passes other (λ other_name lost. apart (sym lost))

-- ---- a wait is taken back

withdrawn_left : (old new : LockState) (k t : Key) → is_live old.table t ≡ true → ¬ (k ≡ t) → TakesBack old k new → IsLeft old t new
withdrawn_left old new k t live apart back =
    let other = apart_by old.table k t (withdrawn_was_live old.table back.made.mid k back.made.event) live apart in
    record {
      live = withdrawal_live old.table new.table k t back.made ∙ live;
      owns = λ name own. (back.owners t name).1 own;
      gains = λ name own. inl ((back.owners t name).0 own);
      waited = λ name waits. inl ((back.others t name other).1 waits);
      waits = λ name waits. (back.others t name other).0 waits;
    }

-- ---- abort, cancel

module _ (old new : LockState) (k t : Key) (lawful : IsLawful old) (after : IsLawful new) (live : is_live old.table t ≡ true) (apart : ¬ (k ≡ t)) where
  pub aborts : (answer : Result (Unit {0}) Refusal) → Aborts old k answer new → IsLeft old t new
  aborts (Ok done) (inl did) = ends_left old new k t lawful.laws after.laws live apart did
  aborts (Ok done) (inr (mid, back, did)) =
      let left = withdrawn_left old mid k t live apart back in
      left_left old mid new t left (ends_left mid new k t (withdrawal_laws old mid k lawful back.made) after.laws left.live apart did)
  aborts (Err refusal) did = untold_left old new t live did.0

  pub cancels : (answer : Result (Unit {0}) Refusal) → Cancels old k answer new → IsLeft old t new
  cancels (Ok done) back = withdrawn_left old new k t live apart back
  cancels (Err refusal) did = untold_left old new t live did.0

-- ---- an unlock of whatever name a transaction owns

pub unlocks_any : (old new : LockState) (k t : Key) → IsLawful old → IsLawful new → is_live old.table t ≡ true → ¬ (k ≡ t) → (answer : Result (Unit {0}) Refusal) → UnlocksAny old k answer new → IsLeft old t new
unlocks_any old new k t lawful after live apart (Ok done) did = unlocks_left old new k t lawful.laws after.laws live apart did.0 did.1
unlocks_any old new k t lawful after live apart (Err refusal) did = untold_left old new t live did.0

-- nobody ends by it
pub unlock_live : (old new : LockState) (k t : Key) → IsLawful old → (answer : Result (Unit {0}) Refusal) → UnlocksAny old k answer new → is_live new.table t ≡ is_live old.table t
unlock_live old new k t lawful (Ok done) (name, did) =
    let made = did.over.made in
    rests_live old.table made.mid new.table t made.rests (released_same t.process old.table made.mid k did.number did.answer lawful.laws made.event)
unlock_live old new k t lawful (Err refusal) did = ap (λ (m : LockState). is_live m.table t) did.0

-- ---- requests

of_a_name : (request : NameRequest) (k t : Key) (name reply : List ℕ) (effect : Effect) (old new : LockState) → RepliesName request k name old reply effect new → IsLawful old → IsLawful new
    → is_live old.table t ≡ true → ¬ (k ≡ t) → IsLeft old t new
of_a_name of_name.Lock k t name reply effect old new (answer, did, text, came) lawful after live apart = locked old new k t name after live apart answer did
of_a_name of_name.Try k t name reply effect old new (answer, did, text, came) lawful after live apart = tries old new k t name after live apart answer did
of_a_name of_name.Unlock k t name reply effect old new (Ok done, did, text, came) lawful after live apart = unlocks_left old new k t lawful.laws after.laws live apart name did.unlocks
of_a_name of_name.Unlock k t name reply effect old new (Err refusal, did, text, came) lawful after live apart = untold_left old new t live did.unlocks.0

of_a_key : (request : KeyRequest) (k t : Key) (reply : List ℕ) (effect : Effect) (old new : LockState) → RepliesKey request k old reply effect new → IsLawful old → IsLawful new
    → is_live old.table t ≡ true → ¬ (k ≡ t) → IsLeft old t new
of_a_key of_key.Commit k t reply effect old new (Ok done, did, text, came) lawful after live apart = ends_left old new k t lawful.laws after.laws live apart did.commits
of_a_key of_key.Commit k t reply effect old new (Err refusal, did, text, came) lawful after live apart = untold_left old new t live did.commits.0
of_a_key of_key.Abort k t reply effect old new (answer, did, text, came) lawful after live apart = aborts old new k t lawful after live apart answer did.aborts
of_a_key of_key.Cancel k t reply effect old new (answer, did, text, came) lawful after live apart = cancels old new k t lawful after live apart answer did.cancels
of_a_key of_key.Status k t reply effect old new (answer, told, same, text, came) lawful after live apart = as_it_was old new t live same

pub others_are_left : OthersAreLeft
others_are_left requests.Begin name reply effect old new (answer, did, text, came) lawful after t live apart = begun old new t answer did live
others_are_left (requests.OfName request k) name reply effect old new did lawful after t live apart = of_a_name request k t name reply effect old new did lawful after live apart
others_are_left (requests.OfKey request k) name reply effect old new did lawful after t live apart = of_a_key request k t reply effect old new did lawful after live apart
others_are_left (requests.Holds k) name reply effect old new (text, same, came) lawful after t live apart = as_it_was old new t live same
others_are_left requests.Owner name reply effect old new (text, same, came) lawful after t live apart = as_it_was old new t live same
others_are_left requests.Graph name reply effect old new (text, same, came) lawful after t live apart = as_it_was old new t live same
others_are_left requests.Totals name reply effect old new (text, same, came) lawful after t live apart = as_it_was old new t live same
