-- From a table with names to what a contract sees: what a request, a release and an end do.
use Rattle.std.specs.Prelude.{is_ok}
use Rattle.std.proofs.Common.{◌≡◌, ◌≢◌, ◌⊎◌, ℕ, Bool, true, false, List, [], Some, Result, Ok, Err, IfOk, IfErr, OnOk, OnErr, inl, inr, refl, sym, ap, subst, ◌∙◌}
use Rattle.mm_arena.specs.declared.key.Key.{Key}
use Rattle.mm_names.specs.Names.{name_of, IsLawful as IsLawfulNames}
use Rattle.mm_rules.specs.TableState.{is_live, owner_of}
use Rattle.mm_rules.specs.Event.{Release, Finish}
use Rattle.mm_rules.specs.Laws.{Laws}
use Rattle.mm_rules.proofs.States.Lookups.{waits_here, held}
use Rattle.mm_settled.specs.Calls.{MadeWithdrawal}
use Rattle.mm_manager.specs.LockState.{LockState, Owns, Waits, has_all, untold}
use Rattle.mm_manager.specs.Calls.{AdoptsName, AdoptsNumber, LocksName, TriesName, Tries, LosesName, LosesAll, Unlocks, Ends, UnlocksName, Commits, TakesBack, Cancels, Aborts}
use Rattle.mm_manager.specs.Calls as calls
use Rattle.mm_manager.specs.Made.{Locked, Tried}
use Rattle.mm_manager.specs.Permit.{may_ask, may_cancel}
use Rattle.mm_manager.specs.Refused.{AdoptRefused, LockRefused, TryRefused, UnlockRefused}
use Rattle.mm_manager.specs.Totals.{after_lock, after_commit, after_abort, after_cancel}
use Rattle.mm_manager.specs.declared.named.NamedTable.{NamedTable}
use Rattle.mm_manager.specs.declared.totals.Totals.{Totals}
use Rattle.mm_manager.specs.declared.refusal.Refusal.{Refusal}
use Rattle.mm_manager.specs.declared.refusal.Refusal.TheVariants.{NoTransaction}
use Rattle.mm_manager.specs.declared.reply.Lock.{Lock}
use Rattle.mm_manager.specs.declared.reply.Lock.TheVariants as lock
use Rattle.mm_manager.specs.declared.reply.TryLock.{TryLock}
use Rattle.mm_manager.specs.declared.reply.TryLock.TheVariants as tried
use Rattle.mm_manager.specs.private.Handed.{HandsOver, HandsAllOver, EndsWaiting, IsUntouched, seen}
use Rattle.mm_manager.specs.private.HandsDown.{IsEnding, IsReleased}
use Rattle.mm_manager.specs.private.Numbers.{AreNumbered, bare}
use Rattle.mm_manager.specs.private.Requests.{Holds, LockRefusedByTable, Requested, TryRefusedByNames}
use Rattle.mm_manager.proofs.Lemmas.Adopted.{adopted_is}
use Rattle.mm_manager.proofs.Lemmas.Asked.{gets, queues}
use Rattle.mm_manager.proofs.Lemmas.HandsDown.{made_laws, release_hands_down, finish_hands_down}
use Rattle.mm_manager.proofs.Lemmas.Names.{passes}
use Rattle.mm_manager.proofs.Lemmas.Requests.{granted_is, queued_is, owned_is_known}
use Rattle.mm_manager.proofs.Lemmas.TakesBack.{takes_back}

-- ---- a request

same_untold : (old new : LockState) → new.table ≡ old.table → new.names ≡ old.names → new.granted ≡ [] → new.totals ≡ old.totals → new.names_each ≡ old.names_each → new ≡ untold old
same_untold old new table names granted totals each = λ i. record { table = table i; names = names i; granted = granted i; totals = totals i; names_each = each i }

-- what table and names refuse is refused of a transaction that may own one more
tried_refused : (m : LockState) (k : Key) (name : List ℕ) (refusal : Refusal) → has_all m k ≡ false → TryRefusedByNames m k name refusal → TryRefused m k name refusal
tried_refused m k name refusal room (inl may) = inl may
tried_refused m k name refusal room (inr (may, full, new)) = inr (inr (full, (may, room), new))

lock_refused : (m : LockState) (k : Key) (name : List ℕ) (refusal : Refusal) → has_all m k ≡ false → LockRefusedByTable m k name refusal → LockRefused m k name refusal
lock_refused m k name refusal room (inl tried) = inl (tried_refused m k name refusal room tried)
lock_refused m k name refusal room (inr (may, full, wait, holder)) = inr (full, (may, room), wait, holder)

pub asked_locks : (old new : LockState) (k : Key) (name : List ℕ) (reply : Result Lock Refusal) → AreNumbered old.table old.names → Laws old.table → Laws new.table
    → Requested old.table old.names old.totals k name reply new.table new.names → new.granted ≡ [] → new.totals ≡ after_lock old.totals reply → new.names_each ≡ old.names_each → has_all old k ≡ false → LocksName old k name reply new
asked_locks old new k name (Ok lock.Granted) numbered laws after (may, asks) granted totals each room = gets old new k name asks.0 numbered asks.1 laws each (granted_is old.table new.table k asks.0 asks.2)
asked_locks old new k name (Ok lock.Held) numbered laws after (may, asks) granted totals each room = (asks.0, same_untold old new asks.1 asks.2 granted totals each)
asked_locks old new k name (Ok (lock.Waits h)) numbered laws after (may, asks) granted totals each room =
    (queues old new k name asks.1.0 numbered asks.1.1 laws each h (queued_is old.table new.table k h asks.1.0 asks.1.2.0) after, asks.1.2.2)
asked_locks old new k name (Ok (lock.Deadlock h)) numbered laws after (may, asks) granted totals each room =
    let known = owned_is_known old.table old.names numbered new.names name asks.1.0 h asks.1.2.owner asks.1.1 in
    record {
      holder = (asks.1.0, known.0, asks.1.2.owner);
      closes = asks.1.2.closes;
      same = asks.1.2.same;
      state = λ i. record { table = new.table; names = known.1 i; granted = granted i; totals = new.totals; names_each = each i };
    }
asked_locks old new k name (Err e) numbered laws after (refused, table, names) granted totals each room = (same_untold old new table names granted totals each, lock_refused old k name e room refused)

pub tried_locks : (old new : LockState) (k : Key) (name : List ℕ) (reply : Result TryLock Refusal) → AreNumbered old.table old.names → Laws old.table
    → IfOk reply (λ answer. Tries old.table old.names k name answer new.table new.names) → IfErr reply (λ refusal. TryRefusedByNames old k name refusal) → OnErr reply (new.table ≡ old.table) → OnErr reply (new.names ≡ old.names) → new.granted ≡ []
    → new.totals ≡ old.totals → new.names_each ≡ old.names_each → has_all old k ≡ false → TriesName old k name reply new
tried_locks old new k name (Ok tried.Granted) numbered laws asks refused table names granted totals each room =
    gets old new k name asks.0 numbered asks.1 laws each (granted_is old.table new.table k asks.0 asks.2)
tried_locks old new k name (Ok tried.Held) numbered laws asks refused table names granted totals each room = (asks.0, same_untold old new asks.1 asks.2 granted totals each)
tried_locks old new k name (Ok (tried.Busy h)) numbered laws asks refused table names granted totals each room = (asks.1.0, asks.0, same_untold old new asks.1.1 asks.1.2 granted totals each)
tried_locks old new k name (Err e) numbered laws asks refused table names granted totals each room = (same_untold old new table names granted totals each, tried_refused old k name e room refused)

pub adoption_takes : (old new : LockState) (k : Key) (name : List ℕ) (reply : Result TryLock Refusal) → AreNumbered old.table old.names → Laws old.table
    → IfOk reply (λ answer. AdoptsNumber old.table old.names k name answer new.table new.names) → IfErr reply (λ refusal. AdoptRefused old k name refusal) → OnErr reply (new.table ≡ old.table) → OnErr reply (new.names ≡ old.names)
    → new.granted ≡ [] → new.totals ≡ old.totals → new.names_each ≡ old.names_each → AdoptsName old k name reply new
adoption_takes old new k name (Ok tried.Granted) numbered laws adopts refused table names granted totals each =
    gets old new k name adopts.0 numbered adopts.1 laws each (adopted_is old.table new.table k adopts.0 adopts.2)
adoption_takes old new k name (Ok tried.Held) numbered laws found refused table names granted totals each = (found.0, same_untold old new found.1 found.2 granted totals each)
adoption_takes old new k name (Ok (tried.Busy h)) numbered laws found refused table names granted totals each = (found.1.0, found.0, same_untold old new found.1.1 found.1.2 granted totals each)
adoption_takes old new k name (Err e) numbered laws adopts refused table names granted totals each = (same_untold old new table names granted totals each, refused)

-- one that may own one more is answered so whatever it asks for
pub room_left : {A : Type 0} (Q : A → Type 0) (P : Type 0) (reply : Result A Refusal) → P → IfOk reply (λ answer. Q answer → P)
room_left Q P (Ok answer) room = λ asked. room
room_left Q P (Err refusal) room = tt

-- of one that owns as many as it may
pub holds_locks : (old new : LockState) (k : Key) (name : List ℕ) → Holds old k name (Ok tt) new → Locked old k name (Ok lock.Held) new
holds_locks old new k name held = record {
  locks = (held.owns, held.same);
  may = held.may;
  room = λ other. absurd (other refl);
  step = (held.owns, ap (λ (m : LockState). m.table) held.same, ap (λ (m : LockState). m.names) held.same);
  granted = ap (λ (m : LockState). m.granted) held.same;
  totals = ap (λ (m : LockState). m.totals) held.same;
}

pub holds_refuses : (old new : LockState) (k : Key) (name : List ℕ) (refusal : Refusal) → Holds old k name (Err refusal) new → Locked old k name (Err refusal) new
holds_refuses old new k name refusal held = record {
  locks = (held.same, inl held.refused);
  may = tt;
  room = tt;
  step = tt;
  granted = ap (λ (m : LockState). m.granted) held.same;
  totals = ap (λ (m : LockState). m.totals) held.same;
}

pub holds_tries : (old new : LockState) (k : Key) (name : List ℕ) → Holds old k name (Ok tt) new → Tried old k name (Ok tried.Held) new
holds_tries old new k name held = record {
  tries = (held.owns, held.same);
  may = held.may;
  room = λ other. absurd (other refl);
  step = (held.owns, ap (λ (m : LockState). m.table) held.same, ap (λ (m : LockState). m.names) held.same);
  granted = ap (λ (m : LockState). m.granted) held.same;
  totals = ap (λ (m : LockState). m.totals) held.same;
}

pub holds_tries_not : (old new : LockState) (k : Key) (name : List ℕ) (refusal : Refusal) → Holds old k name (Err refusal) new → Tried old k name (Err refusal) new
holds_tries_not old new k name refusal held = record {
  tries = (held.same, held.refused);
  may = tt;
  room = tt;
  step = tt;
  granted = ap (λ (m : LockState). m.granted) held.same;
  totals = ap (λ (m : LockState). m.totals) held.same;
}

-- ---- hand-overs

-- `old` is what a contract sees of `was`
module _ (was new : NamedTable) (tells : Bool) (before after : Totals) (each : ℕ) (k : Key) where
  abbrev old : LockState
  old = seen was tells before each

  pub untouched : after ≡ before → IsUntouched was new → seen new false after each ≡ untold old
  untouched totals same = same_untold old (seen new false after each) same.table same.names refl totals refl

  module _ (laws : Laws was.table.table) where
    released : (name : List ℕ) (n : ℕ) → IsLawfulNames was.names → name_of was.names n ≡ Some name → owner_of was.table.table n ≡ Some k → HandsOver k n was new → Unlocks old k name (seen new true after each)
    released name n names named owned (answer, made, follows) = record {
      number = n;
      named = named;
      owned = owned;
      answer = answer;
      over = record { made = made; granted = follows.told.granted; names = follows.names };
      passes = passes old (seen new true after each) k (IsReleased k n) (LosesName k name) (made_laws (Release k n) was.table.table new.table.table answer laws made)
          (release_hands_down was.table.table new.table.table k new.table.granted laws follows.ended follows.told.granted n answer made) follows.names
          (λ q h other is lost. (lost.0, (let both : Some other ≡ Some name = sym is ∙ ap (name_of was.names) lost.1 ∙ named in cc)))
          (λ q h other is lost. (lost.0, names.distinct q n name (is ∙ ap Some lost.1) named)) refl;
    }

    pub ended : HandsAllOver k was new → Ends old k (seen new true after each)
    ended (made, follows) = record {
      over = record { made = made; granted = follows.told.granted; names = follows.names };
      passes = passes old (seen new true after each) k (IsEnding k) (LosesAll k) (made_laws (Finish k) was.table.table new.table.table tt laws made)
          (finish_hands_down was.table.table new.table.table k new.table.granted laws follows.ended follows.told.granted made) follows.names (λ q h other is lost. lost) (λ q h other is lost. lost) refl;
    }

    pub unlocks : (name : List ℕ) (done : Result (Unit {0}) Refusal) (told : Bool) → told ≡ is_ok done → after ≡ before → IsLawfulNames was.names
        → OnOk done ((n : ℕ) × (name_of was.names n ≡ Some name) × (owner_of was.table.table n ≡ Some k) × HandsOver k n was new)
        → OnErr done (IsUntouched was new) → IfErr done (λ refusal. UnlockRefused (bare was.table.table was.names) k name refusal) → UnlocksName old k name done (seen new told after each)
    unlocks name (Ok x) told is totals names (n, named, owned, handed) same refused = subst (λ b. Unlocks old k name (seen new b after each)) (sym is) (released name n names named owned handed)
    unlocks name (Err e) told is totals names handed same refused = (ap (λ b. seen new b after each) is ∙ untouched totals same, refused)

    pub commits : (done : Result (Unit {0}) Refusal) (told : Bool) → told ≡ is_ok done → after ≡ after_commit before done → OnOk done (HandsAllOver k was new) → OnErr done (IsUntouched was new)
        → IfErr done (λ refusal. may_ask was.table.table k ≡ Err refusal) → Commits old k done (seen new told after each)
    commits (Ok x) told is totals handed same refused = subst (λ b. Ends old k (seen new b after each)) (sym is) (ended handed)
    commits (Err e) told is totals handed same refused = (ap (λ b. seen new b after each) is ∙ untouched totals same, refused)

-- who waits takes its wait back
pub taken_back : (was new : NamedTable) (tells : Bool) (before after : Totals) (each : ℕ) (k : Key) → MadeWithdrawal k was.table.table new.table.table → new.names ≡ was.names → TakesBack (seen was tells before each) k (seen new false after each)
taken_back was new tells before after each k made names = takes_back (seen was tells before each) (seen new false after each) k made (λ i. record { table = new.table.table; names = names i; granted = []; totals = after; names_each = each })

pub cancels : (was new : NamedTable) (tells : Bool) (before after : Totals) (each : ℕ) (k : Key) (done : Result (Unit {0}) Refusal) → after ≡ after_cancel before done → OnOk done (MadeWithdrawal k was.table.table new.table.table)
    → new.names ≡ was.names → OnErr done (new.table.table ≡ was.table.table) → IfErr done (λ refusal. may_cancel was.table.table k ≡ Err refusal) → Cancels (seen was tells before each) k done (seen new false after each)
cancels was new tells before after each k (Ok x) totals made names table refused = taken_back was new tells before after each k made names
cancels was new tells before after each k (Err e) totals made names table refused = (same_untold (seen was tells before each) (seen new false after each) table names refl totals refl, refused)

-- who waits takes its wait back, and ends
pub ended_waiting : (was new : NamedTable) (tells : Bool) (before after : Totals) (each : ℕ) (k : Key) → EndsWaiting k was new → calls.EndsWaiting (seen was tells before each) k (seen new true after each)
ended_waiting was new tells before after each k ends =
    (seen ends.mid false before each, taken_back was ends.mid tells before before each k ends.made ends.names, ended ends.mid new false before after each k ends.laws ends.over)

pub aborts : (was new : NamedTable) (tells : Bool) (before after : Totals) (each : ℕ) (k : Key) → Laws was.table.table → (done : Result (Unit {0}) Refusal) (told : Bool) → told ≡ is_ok done → after ≡ after_abort before done
    → OnOk done (HandsAllOver k was new ⊎ EndsWaiting k was new) → OnErr done (IsUntouched was new) → IfErr done (λ refusal. (is_live was.table.table k ≡ false) × (refusal ≡ NoTransaction)) → Aborts (seen was tells before each) k done (seen new told after each)
aborts was new tells before after each k laws (Ok x) told is totals (inl handed) same refused = subst (λ b. Aborts (seen was tells before each) k (Ok x) (seen new b after each)) (sym is) (inl (ended was new tells before after each k laws handed))
aborts was new tells before after each k laws (Ok x) told is totals (inr ends) same refused = subst (λ b. Aborts (seen was tells before each) k (Ok x) (seen new b after each)) (sym is) (inr (ended_waiting was new tells before after each k ends))
aborts was new tells before after each k laws (Err e) told is totals handed same refused = (ap (λ b. seen new b after each) is ∙ untouched was new tells before after each k totals same, refused.0, refused.1)

-- ---- the laws

pub waits_for_owner : (m : LockState) → Laws m.table → (k : Key) (name : List ℕ) → Waits m k name → (h : Key) × Owns m h name × (h.process ≢ k.process)
waits_for_owner m laws k name waits =
    let here = waits_here m.table k.process waits.0 waits.2 in
    let holder = held m.table laws.lawful.well_formed here.wait here.among in
    (holder.0, (waits.0, waits.1, ap (owner_of m.table) (sym here.resource) ∙ holder.1), λ same. holder.2 (same ∙ sym here.process))
