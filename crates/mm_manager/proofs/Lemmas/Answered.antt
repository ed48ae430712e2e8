-- From the answers by number to what a request for a name says.
use Rattle.std.proofs.Common.{◌≡◌, ◌⊎◌, ℕ, List, Some, None, Result, Ok, Err, IfOk, OnOk, inl, inr, refl, sym, ap, subst, ◌∙◌, slice_set}
use Rattle.std.proofs.lemmas.Bool.{not-false}
use Rattle.std.proofs.lemmas.List.{set-set, set-get_or}
use Rattle.mm_arena.specs.declared.key.Key.{Key}
use Rattle.mm_names.specs.Names.{NameTable, name_of, with_name, IsFree, IsNamed, IsRefusedAsFull, Interns}
use Rattle.mm_rules.specs.declared.reply.Acquired.TheVariants as acquired
use Rattle.mm_rules.specs.TableState.{TableState, is_live, owner_of, wait_of, waited_for}
use Rattle.mm_rules.specs.Event.{acquire_tests, acquire_answer, acquire_change}
use Rattle.mm_rules.specs.Laws.{Laws}
use Rattle.mm_rules.proofs.States.Lookups.{none_of_is_some}
use Rattle.mm_settled.specs.Calls.{Locks}
use Rattle.mm_settled.specs.declared.reply.Locked.TheVariants as locked
use Rattle.mm_settled.proofs.Lemmas.Accepted.{accepted}
use Rattle.mm_manager.specs.Calls.{Requests}
use Rattle.mm_manager.specs.Permit.{first_refusal, may_ask, may_count, may_name, may_request}
use Rattle.mm_manager.specs.Totals.{after_lock}
use Rattle.mm_manager.specs.declared.totals.Totals.{Totals}
use Rattle.mm_manager.specs.declared.refusal.Refusal.{Refusal}
use Rattle.mm_manager.specs.declared.refusal.Refusal.TheVariants.{NamesFull}
use Rattle.mm_manager.specs.declared.reply.Lock.{Lock}
use Rattle.mm_manager.specs.declared.reply.Lock.TheVariants as lock
use Rattle.mm_manager.specs.private.Numbers.{AreNumbered, silent}
use Rattle.mm_manager.specs.private.Requests.{LockRefusedByTable, may_ask_more, AnswersNew, AnswersNamed, AsksFor, Requested}
use Rattle.mm_manager.specs.private.Room.{LabelsAreCounted, HasReserve}
use Rattle.mm_manager.proofs.Lemmas.Asked.{RequestKeeps, request_keeps, request_labels}
use Rattle.mm_manager.proofs.Lemmas.May.{asks, counted, may_ask_of}
use Rattle.mm_manager.proofs.Lemmas.Numbers.{numbered_alike}
use Rattle.mm_manager.proofs.Lemmas.Requests.{granted_is, queued_is, numbered_granted, numbered_queued}

-- ---- what refuses first

first_both : (a b : Result (Unit {0}) Refusal) → first_refusal a b ≡ Ok tt → (a ≡ Ok tt) × (b ≡ Ok tt)
first_both (Ok tt) b is = (refl, is)
first_both (Err e) b is = (let never : Err e ≡ Ok tt = is in absurd (cc))

first_of_three : (a b c : Result (Unit {0}) Refusal) → first_refusal a (first_refusal b c) ≡ first_refusal (first_refusal a b) c
first_of_three (Ok tt) b c = refl
first_of_three (Err e) b c = refl

pub asks_more : (s : TableState) (k : Key) → may_ask_more s k ≡ Ok tt → (may_ask s k ≡ Ok tt) × (may_count s ≡ Ok tt)
asks_more s k is = first_both (may_ask s k) (may_count s) is

pub asks_both : (s : TableState) (k : Key) → may_ask s k ≡ Ok tt → may_count s ≡ Ok tt → may_ask_more s k ≡ Ok tt
asks_both s k may count = ap (λ a. first_refusal a (may_count s)) may ∙ count

module _ (s : TableState) (name_bytes : ℕ) (k : Key) (name : List ℕ) where
  more_then_name : may_request s name_bytes k name ≡ first_refusal (may_ask_more s k) (may_name name_bytes name)
  more_then_name = first_of_three (may_ask s k) (may_count s) (may_name name_bytes name)

  request_ok : may_ask_more s k ≡ Ok tt → may_name name_bytes name ≡ Ok tt → may_request s name_bytes k name ≡ Ok tt
  request_ok more named = more_then_name ∙ ap (λ a. first_refusal a (may_name name_bytes name)) more ∙ named

  request_err : (refusal : Refusal) → may_ask_more s k ≡ Err refusal → may_request s name_bytes k name ≡ Err refusal
  request_err refusal more = more_then_name ∙ ap (λ a. first_refusal a (may_name name_bytes name)) more

  request_name : (refusal : Refusal) → may_ask_more s k ≡ Ok tt → may_name name_bytes name ≡ Err refusal → may_request s name_bytes k name ≡ Err refusal
  request_name refusal more named = more_then_name ∙ ap (λ a. first_refusal a (may_name name_bytes name)) more ∙ named

-- ---- who is granted a number may ask

pub granted_asks : (s u : TableState) (k : Key) (n : ℕ) → Locks s k n (Ok locked.Granted) u → may_ask s k ≡ Ok tt
granted_asks s u k n locks =
    let done = accepted (acquire_tests s k n) s (acquire_answer s k (owner_of s n)) (acquire_change s k n (owner_of s n)) acquired.Granted u locks in
    may_ask_of s k (not-false (is_live s k) done.passed.1.0) (none_of_is_some (wait_of s k.process) done.passed.1.1.1.0)

-- so it may after it
pub granted_asks_more : (s u : TableState) (k : Key) (n : ℕ) → Locks s k n (Ok locked.Granted) u → may_ask u k ≡ Ok tt
granted_asks_more s u k n locks =
    let granted = granted_is s u k n locks in
    let active = asks s k (granted_asks s u k n locks) in
    may_ask_of u k (granted.live ∙ active.live) (ap (λ ws. waited_for ws k.process) granted.waits ∙ active.idle)

pub request_asks : (s : TableState) (name_bytes : ℕ) (k : Key) (name : List ℕ) → may_request s name_bytes k name ≡ Ok tt → may_ask s k ≡ Ok tt
request_asks s name_bytes k name may = (first_both (may_ask s k) (first_refusal (may_count s) (may_name name_bytes name)) may).0

-- ---- by what a request says

module _ (s u : TableState) (t named : NameTable) (c : Totals) (k : Key) (name : List ℕ) where
  pub requested_asks : (reply : Result Lock Refusal) → Requested s t c k name reply u named → IfOk reply (λ answer. Requests s t c k name answer u named)
  requested_asks (Ok answer) is = is.1
  requested_asks (Err refusal) is = tt

  pub requested_may : (reply : Result Lock Refusal) → Requested s t c k name reply u named → OnOk reply (may_request s t.name_bytes k name ≡ Ok tt)
  requested_may (Ok answer) is = is.0
  requested_may (Err refusal) is = tt

-- ---- a name that is new

-- the number that it got has no name again
forgotten_again : (t : NameTable) (n : ℕ) (name : List ℕ) → name_of t n ≡ None → with_name (with_name t n (Some name)) n None ≡ t
forgotten_again t n name free =
    ap (λ ns. record t { names = ns })
    (set-set t.names n (Some name) None ∙ ap (slice_set t.names n) (sym free) ∙ set-get_or t.names n None)

module _ (s u : TableState) (t after : NameTable) (c : Totals) (k : Key) (name : List ℕ) (n : ℕ) (allowed : may_name t.name_bytes name ≡ Ok tt) where
  module _ (named : NameTable) (fresh : ¬ IsNamed t name) (free : IsFree t n) (given : after ≡ with_name t n (Some name)) where
    unchanged : named ≡ with_name after n None → named ≡ t
    unchanged is = is ∙ ap (λ v. with_name v n None) given ∙ forgotten_again t n name free.1

    pub new_requested : (reply : Result Lock Refusal) → AnswersNew s k n after reply u named → Requested s t c k name reply u named
    new_requested (Ok answer) (granted, more, locks, same) =
        let interns : Interns t name n named = inr (fresh, free, same ∙ given) in
        (request_ok s t.name_bytes k name more allowed, subst (λ a. Requests s t c k name a u named) (sym granted) (n, interns, locks))
    new_requested (Err refusal) (more, same, is) = (inl (inl (request_err s t.name_bytes k name refusal more)), same, unchanged is)

    pub new_numbered : AreNumbered s t → Laws s → (reply : Result Lock Refusal) → AnswersNew s k n after reply u named → AreNumbered u named
    new_numbered numbered laws (Ok answer) (granted, more, locks, same) =
        numbered_granted s t numbered named name n laws k u (granted_is s u k n locks) (inr (fresh, free, same ∙ given))
    new_numbered numbered laws (Err refusal) (more, same, is) = rw (same, unchanged is) numbered

  -- ---- a name that has a number

  module _ (known : name_of t n ≡ Some name) (kept : after ≡ t) where
    asks_for : (answer : Lock) → AsksFor s c k n answer u → Requests s t c k name answer u after
    asks_for lock.Granted locks = (n, inl (known, kept), locks)
    asks_for (lock.Waits h) (label, locks) = (label, (n, inl (known, kept), locks))
    asks_for (lock.Deadlock h) (label, locks) = (label, (n, inl (known, kept), locks))
    asks_for lock.Held (owner, same) = ((n, known, owner), same, kept)

    pub named_requested : (reply : Result Lock Refusal) → AnswersNamed s c k n reply u → Requested s t c k name reply u after
    named_requested (Ok answer) (more, asked) = (request_ok s t.name_bytes k name more allowed, asks_for answer asked)
    named_requested (Err refusal) (same, inl more) = (inl (inl (request_err s t.name_bytes k name refusal more)), same, kept)
    named_requested (Err refusal) (same, inr (more, full, label, (h, other, owner))) =
        (inr (request_ok s t.name_bytes k name more allowed, full, label, (h, other, (n, known, owner))), same, kept)

    numbered_by : AreNumbered s t → Laws s → (answer : Lock) → AsksFor s c k n answer u → AreNumbered u after
    numbered_by numbered laws lock.Granted locks = numbered_granted s t numbered after name n laws k u (granted_is s u k n locks) (inl (known, kept))
    numbered_by numbered laws (lock.Waits h) (label, locks) = numbered_queued s t numbered after name n k h u (queued_is s u k h n locks.0) (inl (known, kept))
    numbered_by numbered laws (lock.Deadlock h) (label, locks) = rw kept (numbered_alike s t numbered u locks.same.owners locks.same.config)
    numbered_by numbered laws lock.Held (owner, same) = rw (same, kept) numbered

    pub named_numbered : AreNumbered s t → Laws s → (reply : Result Lock Refusal) → AnswersNamed s c k n reply u → AreNumbered u after
    named_numbered numbered laws (Ok answer) (more, asked) = numbered_by numbered laws answer asked
    named_numbered numbered laws (Err refusal) (same, why) = rw (same, kept) numbered

-- ---- a name that gets no number

module _ (s : TableState) (t : NameTable) (c : Totals) (k : Key) (name : List ℕ) (found refusal : Refusal)
    (why : (may_name t.name_bytes name ≡ Err found) ⊎ ((may_name t.name_bytes name ≡ Ok tt) × (found ≡ NamesFull) × IsRefusedAsFull t name)) where
  by_name : may_ask_more s k ≡ Ok tt → refusal ≡ found → LockRefusedByTable (silent s t c) k name refusal
  by_name more same = elim why [
    | inl named ↦ inl (inl (request_name s t.name_bytes k name refusal more (named ∙ ap Err (sym same))))
    | inr full ↦ inl (inr (request_ok s t.name_bytes k name more full.0, same ∙ full.1, full.2))
  ]

  by_asking : (a : Result (Unit {0}) Refusal) → may_ask_more s k ≡ a → Err refusal ≡ first_refusal a (Err found) → LockRefusedByTable (silent s t c) k name refusal
  by_asking (Ok tt) more is = by_name more (cc)
  by_asking (Err e) more is = inl (inl (request_err s t.name_bytes k name refusal (more ∙ sym is)))

  pub number_refused : Err refusal ≡ first_refusal (may_ask_more s k) (Err found) → LockRefusedByTable (silent s t c) k name refusal
  number_refused is = by_asking (may_ask_more s k) refl is

-- ---- what stays

may_of : (s : TableState) (name_bytes : ℕ) (k : Key) (name : List ℕ) → may_request s name_bytes k name ≡ Ok tt → (may_ask s k ≡ Ok tt) × (may_count s ≡ Ok tt)
may_of s name_bytes k name is = asks_more s k (first_both (may_ask_more s k) (may_name name_bytes name) (sym (more_then_name s name_bytes k name) ∙ is)).0

module _ (s u : TableState) (t named : NameTable) (c : Totals) (k : Key) (name : List ℕ) (labels : LabelsAreCounted s c) where
  pub requested_labels : (reply : Result Lock Refusal) → Requested s t c k name reply u named → LabelsAreCounted u (after_lock c reply)
  requested_labels (Ok answer) (may, asked) = request_labels s u t named c k name labels answer asked
  requested_labels (Err refusal) (why, same, kept) = subst (λ (v : TableState). LabelsAreCounted v c) (sym same) labels

module _ (s u : TableState) (t named : NameTable) (c : Totals) (k : Key) (name : List ℕ) (laws : Laws s) (room : HasReserve s) (labels : LabelsAreCounted s c) where
  pub requested_keeps : (reply : Result Lock Refusal) → Requested s t c k name reply u named → RequestKeeps s u
  requested_keeps (Ok answer) (may, asked) =
      request_keeps s u t named c k name labels answer record { laws = laws; room = room; below = counted s (may_of s t.name_bytes k name may).1 } asked
  requested_keeps (Err refusal) (why, same, kept) =
      subst (λ (v : TableState). RequestKeeps s v) (sym same) record { laws = laws; room = room; config = refl }
