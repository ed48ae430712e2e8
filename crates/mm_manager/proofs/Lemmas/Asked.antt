-- From numbers to names: what a request does.
use Rattle.std.proofs.Common.{◌≡◌, ◌≢◌, ◌∷◌, ◌<◌, ◌*◌, ◌/◌, ℕ, true, List, [], Some, None, Result, Ok, Err, inl, inr, refl, sym, ap, subst, ◌∙◌, slice_index_or, get_or-set_same, get_or-set_other, arith, length}
use Rattle.std.proofs.lemmas.Bool.{ltb-true}
use Rattle.mm_arena.specs.declared.key.Key.{Key}
use Rattle.mm_lists.specs.Members.{Among}
use Rattle.mm_lists.proofs.Lemmas.Among.{among_right}
use Rattle.mm_names.specs.Names.{NameTable, name_of, with_name, IsNamed, Interns}
use Rattle.mm_rules.specs.declared.reply.Acquired.TheVariants as acquired
use Rattle.mm_rules.specs.TableState.{TableState, owner_of, wait_of, waited_for}
use Rattle.mm_rules.specs.Event.{Acquire, Settle}
use Rattle.mm_rules.specs.Laws.{Laws}
use Rattle.mm_rules.proofs.States.EventsKeepLaws.{event_keeps}
use Rattle.mm_rules.proofs.States.TakeBack.{take_back_keeps_laws}
use Rattle.mm_rules.proofs.States.Lookups.{waiter_waits}
use Rattle.mm_settle_lemmas.proofs.Lemmas.Acquired.{queue_else}
use Rattle.mm_settled.specs.Calls.{Locks, WaitsFrom, Declines}
use Rattle.mm_settled.specs.declared.reply.Locked.TheVariants as locked
use Rattle.mm_manager.specs.LockState.{LockState}
use Rattle.mm_manager.specs.Calls.{Gets, Queues, Requests, Tries}
use Rattle.mm_manager.specs.Permit.{event_limit, may_wait, requests_met}
use Rattle.mm_manager.specs.Totals.{after_lock}
use Rattle.mm_manager.specs.declared.totals.Totals.{Totals}
use Rattle.mm_manager.specs.declared.refusal.Refusal.{Refusal}
use Rattle.mm_manager.specs.declared.reply.Lock.{Lock}
use Rattle.mm_manager.specs.declared.reply.Lock.TheVariants as lock
use Rattle.mm_manager.specs.private.Numbers.{AreNumbered}
use Rattle.mm_manager.specs.private.Room.{HasLabels, LabelsAreCounted, HasReserve}
use Rattle.mm_manager.specs.declared.reply.TryLock.{TryLock}
use Rattle.mm_manager.specs.declared.reply.TryLock.TheVariants as tried
use Rattle.mm_manager.proofs.Lemmas.Names.{waited_is_owned}
use Rattle.mm_manager.proofs.Lemmas.Numbers.{some_not_none}
use Rattle.mm_manager.proofs.Lemmas.Room.{granted_labels, granted_room, waits_labels, waits_room, declines_labels, declines_room}
use Rattle.mm_manager.proofs.Lemmas.Requests.{IsGranted, IsQueued, granted_is, queued_is, interned_name, owned_is_known, free_is_new}

-- ---- what stays in the table

queued_else : (s u : TableState) (k h : Key) (n : ℕ) → IsQueued s k n h u → (m : ℕ) → m ≢ k.process → wait_of u m ≡ wait_of s m
queued_else s u k h n queued m apart = ap (λ ws. waited_for ws m) queued.waits ∙ (queue_else s (record { key = k; resource = n }) m apart).wait

pub record RequestKeeps (s u : TableState) : Type 0 where
  pub laws : Laws u
  pub room : HasReserve u
  pub config : u.config ≡ s.config

-- a request that may wait finds its labels
pub label_left : (s : TableState) (c : Totals) → LabelsAreCounted s c → may_wait s c ≡ true → HasLabels s
label_left s c counted may p = (let below : requests_met c < s.config.label_limit / 2 = ltb-true (requests_met c) (s.config.label_limit / 2) may in omega (arith, below, counted p))

-- what holds before a request
pub record MayRequest (s : TableState) : Type 0 where
  pub laws : Laws s
  pub room : HasReserve s
  pub below : s.totals.accepted < event_limit

granted_keeps : (s u : TableState) (k : Key) (n : ℕ) → MayRequest s → Locks s k n (Ok locked.Granted) u → RequestKeeps s u
granted_keeps s u k n may locks =
    let granted = granted_is s u k n locks in
    let laws = (event_keeps (Acquire k n) s u (Ok acquired.Granted) locks may.laws).laws in
    record {
      laws = laws;
      room = granted_room s u k n may.room laws may.below locks;
      config = granted.config;
    }

waits_keeps : (s u : TableState) (k h : Key) (n : ℕ) → MayRequest s → HasLabels s → WaitsFrom s k n h u → RequestKeeps s u
waits_keeps s u k h n may label from =
    let queued = queued_is s u k h n from in
    let laws = (event_keeps Settle from.mid u (Ok from.answer) from.settle (event_keeps (Acquire k n) s from.mid (Ok (acquired.Waits h from.label)) from.event may.laws).laws).laws in
    record {
      laws = laws;
      room = waits_room s u k h n may.room laws may.below label from;
      config = queued.config;
    }

declines_keeps : (s u : TableState) (k h : Key) (n : ℕ) → MayRequest s → HasLabels s → Declines s k n h u → RequestKeeps s u
declines_keeps s u k h n may label declined =
    let from = declined.waited in
    let settled = (event_keeps Settle from.mid declined.settled (Ok from.answer) from.settle (event_keeps (Acquire k n) s from.mid (Ok (acquired.Waits h from.label)) from.event may.laws).laws).laws in
    let laws : Laws u = subst (λ (t : TableState). Laws t) (sym declined.back) (take_back_keeps_laws declined.settled k.process settled declined.verdict) in
    record {
      laws = laws;
      room = declines_room s u k h n may.room laws may.below label declined;
      config = declined.same.config;
    }

pub same_keeps : (s u : TableState) → MayRequest s → u ≡ s → RequestKeeps s u
same_keeps s u may same = subst (λ v. RequestKeeps s v) (sym same) record { laws = may.laws; room = may.room; config = refl }

module _ (s u : TableState) (t named : NameTable) (c : Totals) (k : Key) (name : List ℕ) (labels : LabelsAreCounted s c) where
  pub request_keeps : (answer : Lock) → MayRequest s → Requests s t c k name answer u named → RequestKeeps s u
  request_keeps lock.Granted may asks = granted_keeps s u k asks.0 may asks.2
  request_keeps (lock.Waits h) may asks = waits_keeps s u k h asks.1.0 may (label_left s c labels asks.0) asks.1.2.0
  request_keeps (lock.Deadlock h) may asks = declines_keeps s u k h asks.1.0 may (label_left s c labels asks.0) asks.1.2
  request_keeps lock.Held may asks = same_keeps s u may asks.1

  pub request_labels : (answer : Lock) → Requests s t c k name answer u named → LabelsAreCounted u (after_lock c (Ok answer))
  request_labels lock.Granted asks = granted_labels s u k asks.0 asks.2 (2 * requests_met c) labels
  request_labels (lock.Waits h) asks = λ p. omega (arith, waits_labels s u k h asks.1.0 asks.1.2.0 (2 * requests_met c) labels p)
  request_labels (lock.Deadlock h) asks = λ p. omega (arith, declines_labels s u k h asks.1.0 asks.1.2 (2 * requests_met c) labels p)
  request_labels lock.Held asks = subst (λ v. LabelsAreCounted v c) (sym asks.1) labels

tried_keeps : (s u : TableState) (t named : NameTable) (k : Key) (name : List ℕ) (answer : TryLock) → MayRequest s → Tries s t k name answer u named → RequestKeeps s u
tried_keeps s u t named k name tried.Granted may asks = granted_keeps s u k asks.0 may asks.2
tried_keeps s u t named k name tried.Held may found = same_keeps s u may found.1
tried_keeps s u t named k name (tried.Busy h) may found = same_keeps s u may found.1.1

pub try_keeps : (s u : TableState) (t named : NameTable) (k : Key) (name : List ℕ) (reply : Result TryLock Refusal) → MayRequest s
    → ((answer : TryLock) → reply ≡ Ok answer → Tries s t k name answer u named) → ((e : Refusal) → reply ≡ Err e → u ≡ s) → RequestKeeps s u
try_keeps s u t named k name (Ok answer) may made refused = tried_keeps s u t named k name answer may (made answer refl)
try_keeps s u t named k name (Err e) may made refused = same_keeps s u may (refused e refl)

-- ---- by names

module _ (old new : LockState) (k : Key) (name : List ℕ) (n : ℕ) (numbered : AreNumbered old.table old.names) (interned : Interns old.names name n new.names) (laws : Laws old.table) (each : new.names_each ≡ old.names_each) where
  module _ (granted : IsGranted old.table k n new.table) where
    fresh : (n < length old.names.names) × (new.names ≡ with_name old.names n (Some name))
    fresh = free_is_new old.table old.names numbered new.names name n granted.free interned

    not_named : ¬ IsNamed old.names name
    not_named = elim interned [
      | inl known ↦ absurd (some_not_none (name_of old.names n) name known.0 ((numbered.named n).1 granted.free))
      | inr new_name ↦ new_name.0
    ]

    owner_else : (q : ℕ) → q ≢ n → owner_of new.table q ≡ owner_of old.table q
    owner_else q apart = ap (λ os. slice_index_or os q None) granted.owners ∙ get_or-set_other old.table.owners n q (Some k) None apart

    name_else : (q : ℕ) → q ≢ n → name_of new.names q ≡ name_of old.names q
    name_else q apart = ap (λ t. name_of t q) fresh.1 ∙ get_or-set_other old.names.names n q (Some name) None apart

    name_here : name_of new.names n ≡ Some name
    name_here = interned_name old.names new.names name n interned

    wait_same : (m : ℕ) → wait_of new.table m ≡ wait_of old.table m
    wait_same m = ap (λ ws. waited_for ws m) granted.waits

    apart_by_name : (q : ℕ) (other : List ℕ) → other ≢ name → name_of new.names q ≡ Some other → q ≢ n
    apart_by_name q other differ named same = differ (let here : Some other ≡ Some name = sym named ∙ ap (name_of new.names) same ∙ name_here in cc)

    apart_by_old : (q : ℕ) (other : List ℕ) → name_of old.names q ≡ Some other → q ≢ n
    apart_by_old q other named same = some_not_none (name_of old.names q) other named (ap (name_of old.names) same ∙ (numbered.named n).1 granted.free)

    apart_by_wait : (m q : ℕ) → wait_of old.table m ≡ Some q → q ≢ n
    apart_by_wait m q waits same = (let owner = waited_is_owned old.table laws m q waits in some_not_none (owner_of old.table q) owner.0 owner.1 (ap (owner_of old.table) same ∙ granted.free))

    pub gets : Gets old k name new
    gets = record {
      config = granted.config;
      names_each = each;
      free = λ h owns. not_named (owns.0, owns.1);
      owns = (n, name_here, ap (λ os. slice_index_or os n None) granted.owners ∙ get_or-set_same old.table.owners n (Some k) None (omega (arith, fresh.0, numbered.as_many, laws.lawful.well_formed.sizes.owners)));
      others = λ h other differ. (
        λ owns. (let apart = apart_by_name owns.0 other differ owns.1 in (owns.0, sym (name_else owns.0 apart) ∙ owns.1, sym (owner_else owns.0 apart) ∙ owns.2)),
        λ owns. (let apart = apart_by_old owns.0 other owns.1 in (owns.0, name_else owns.0 apart ∙ owns.1, owner_else owns.0 apart ∙ owns.2)),
      );
      waits = λ h other. (
        λ waits.
            let before = sym (wait_same h.process) ∙ waits.2 in
            let apart = apart_by_wait h.process waits.0 before in
            (waits.0, sym (name_else waits.0 apart) ∙ waits.1, before),
        λ waits. (let apart = apart_by_wait h.process waits.0 waits.2 in (waits.0, name_else waits.0 apart ∙ waits.1, wait_same h.process ∙ waits.2)),
      );
    }

  module _ (h : Key) (queued : IsQueued old.table k n h new.table) (after : Laws new.table) where
    known : (name_of old.names n ≡ Some name) × (new.names ≡ old.names)
    known = owned_is_known old.table old.names numbered new.names name n h queued.held interned

    same_name : (q : ℕ) → name_of new.names q ≡ name_of old.names q
    same_name q = ap (λ t. name_of t q) known.1

    same_owner : (q : ℕ) → owner_of new.table q ≡ owner_of old.table q
    same_owner q = ap (λ os. slice_index_or os q None) queued.owners

    wait_else : (m : ℕ) → m ≢ k.process → wait_of new.table m ≡ wait_of old.table m
    wait_else m apart = queued_else old.table new.table k h n queued m apart

    pub queues : Queues old k name h new
    queues = record {
      config = queued.config;
      names_each = each;
      holder = (n, known.0, queued.held);
      waits = (
        n,
        same_name n ∙ known.0,
        waiter_waits new.table after.lawful.well_formed (record { key = k; resource = n }) k.process
            (subst (Among (record { key = k; resource = n })) (sym queued.waits) (among_right old.table.waits (record { key = k; resource = n } ∷ []) (record { key = k; resource = n }) (inl refl))) refl,
      );
      owners = λ g other. (
        λ owns. (owns.0, sym (same_name owns.0) ∙ owns.1, sym (same_owner owns.0) ∙ owns.2),
        λ owns. (owns.0, same_name owns.0 ∙ owns.1, same_owner owns.0 ∙ owns.2),
      );
      others = λ g other apart. (
        λ waits. (waits.0, sym (same_name waits.0) ∙ waits.1, sym (wait_else g.process apart) ∙ waits.2),
        λ waits. (waits.0, same_name waits.0 ∙ waits.1, wait_else g.process apart ∙ waits.2),
      );
    }
