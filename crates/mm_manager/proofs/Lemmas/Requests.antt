-- What a request leaves of names and owners.
use Rattle.std.proofs.Common.{◌≡◌, ◌<◌, ◌+◌, ◌++◌, ℕ, true, false, List, [], ◌∷◌, length, Option, Some, None, Result, Ok, Err, Bool, IsTrue, IfOk, IfErr, OnOk, OnErr, if◌then◌else◌, ◌&&◌, ◌≢◌, ◌⊎◌, subst, refl, sym, ap, ◌∙◌, inl, inr, slice_set, slice_index, slice_index_or, get_or-set_same, nat_eq}
use Rattle.std.specs.Result.{IsErr, IsErrAnd}
use Rattle.std.proofs.lemmas.Bool.{and_parts, eqb-true, eq-eqb, lt-ltb}
use Rattle.mm_arena.specs.declared.key.Key.{Key}
use Rattle.mm_label.specs.Label.{Label}
use Rattle.mm_names.specs.Names.{NameTable, name_of, with_name, Interns, IsRefusedAsFull}
use Rattle.mm_rules.specs.declared.reply.Acquired.{Acquired}
use Rattle.mm_rules.specs.declared.reply.Acquired.TheVariants as acquired
use Rattle.mm_rules.specs.TableState.{TableState, is_live, owner_of, owns, wait_of}
use Rattle.mm_rules.specs.Event.{Acquire, Step, acquire_tests, acquire_answer, acquire_change}
use Rattle.mm_rules.specs.Laws.{Laws}
use Rattle.mm_rules.proofs.States.Lookups.{none_of_is_some}
use Rattle.mm_rules.proofs.States.Outcome.{counting}
use Rattle.mm_rules.proofs.States.Release.{owns_gives}
use Rattle.mm_rules.proofs.States.SettleKeeps.{settle_keeps}
use Rattle.mm_settled.specs.Calls.{Locks, WaitsFrom}
use Rattle.mm_settled.specs.declared.reply.Locked.{Locked}
use Rattle.mm_settled.specs.declared.reply.Locked.TheVariants as locked
use Rattle.mm_settled.proofs.Lemmas.Accepted.{IsAccepted, accepted}
use Rattle.mm_manager.specs.Calls.{AdoptsNumber, Tries}
use Rattle.mm_manager.specs.Permit.{event_limit, first_refusal, may_adopt, may_ask, may_count, may_name, may_own, may_request}
use Rattle.mm_manager.specs.Refused.{AdoptRefused}
use Rattle.mm_manager.specs.declared.refusal.Refusal.{Refusal}
use Rattle.mm_manager.specs.declared.refusal.Refusal.TheVariants.{CountsFull, NamesFull}
use Rattle.mm_manager.specs.declared.reply.TryLock.{TryLock}
use Rattle.mm_manager.specs.declared.reply.TryLock.TheVariants as tried
use Rattle.mm_manager.specs.private.Numbers.{AreNumbered, bare}
use Rattle.mm_manager.specs.private.Requests.{TryRefusedByNames, tried_by}
use Rattle.mm_manager.proofs.Lemmas.Numbers.{some_not_none, numbered_alike, numbered_set}

-- ---- what the table does

-- the number was free, and is k's
pub record IsGranted (s : TableState) (k : Key) (n : ℕ) (u : TableState) : Type 0 where
  pub free : owner_of s n ≡ None
  pub owners : u.owners ≡ slice_set s.owners n (Some k)
  pub waits : u.waits ≡ s.waits
  pub live : is_live u k ≡ is_live s k
  pub config : u.config ≡ s.config

-- k waits for the number, which h owns
pub record IsQueued (s : TableState) (k : Key) (n : ℕ) (h : Key) (u : TableState) : Type 0 where
  pub held : owner_of s n ≡ Some h
  pub active : wait_of s k.process ≡ None
  pub owners : u.owners ≡ s.owners
  pub waits : u.waits ≡ s.waits ++ record { key = k; resource = n } ∷ []
  pub config : u.config ≡ s.config

granted_by : (s u : TableState) (k : Key) (n m : ℕ) (o : Option Key) → owner_of s n ≡ o → acquire_answer s k o ≡ acquired.Granted → u ≡ counting (acquire_change s k n o) m → IsGranted s k n u
granted_by s u k n m None is answer after = record { free = is; owners = ap (λ (v : TableState). v.owners) after; waits = ap (λ (v : TableState). v.waits) after; live = ap (λ (v : TableState). is_live v k) after; config = ap (λ (v : TableState). v.config) after }
granted_by s u k n m (Some h) is answer after = absurd (cc)

queued_by : (s u : TableState) (k h : Key) (l : Label) (n m : ℕ) (o : Option Key) → wait_of s k.process ≡ None → owner_of s n ≡ o → acquire_answer s k o ≡ acquired.Waits h l → u ≡ counting (acquire_change s k n o) m → IsQueued s k n h u
queued_by s u k h l n m None active is answer after = absurd (cc)
queued_by s u k h l n m (Some g) active is answer after =
    let same : g ≡ h = cc in
    record { held = is ∙ ap Some same; active = active; owners = ap (λ (v : TableState). v.owners) after; waits = ap (λ (v : TableState). v.waits) after; config = ap (λ (v : TableState). v.config) after }

done_by : (s u : TableState) (k : Key) (n : ℕ) (answer : Acquired) → Step (Acquire k n) s (Ok answer) u
    → IsAccepted Acquired (acquire_tests s k n) (acquire_answer s k (owner_of s n)) (acquire_change s k n (owner_of s n)) answer u
done_by s u k n answer step = accepted (acquire_tests s k n) s (acquire_answer s k (owner_of s n)) (acquire_change s k n (owner_of s n)) answer u step

pub granted_is : (s u : TableState) (k : Key) (n : ℕ) → Locks s k n (Ok locked.Granted) u → IsGranted s k n u
granted_is s u k n locks =
    let done = done_by s u k n acquired.Granted locks in
    granted_by s u k n ((acquire_change s k n (owner_of s n)).totals.accepted + 1) (owner_of s n) refl done.answer done.state

pub queued_is : (s u : TableState) (k h : Key) (n : ℕ) → WaitsFrom s k n h u → IsQueued s k n h u
queued_is s u k h n from =
    let done = done_by s from.mid k n (acquired.Waits h from.label) from.event in
    let queued = queued_by s from.mid k h from.label n ((acquire_change s k n (owner_of s n)).totals.accepted + 1) (owner_of s n) (none_of_is_some (wait_of s k.process) done.passed.1.1.1.0) refl done.answer done.state in
    let settled = settle_keeps from.mid u (Ok from.answer) from.settle in
    record { held = queued.held; active = queued.active; owners = settled.owners ∙ queued.owners; waits = settled.waits ∙ queued.waits; config = settled.config ∙ queued.config }

-- ---- it owns the number already

generation_is : (s : TableState) (k : Key) → IsTrue (is_live s k) → slice_index s.generations k.process ≡ k.generation
generation_is s k live =
    let parts = and_parts (slice_index_or s.live k.process false) (nat_eq (slice_index s.generations k.process) k.generation) live in
    eqb-true (slice_index s.generations k.process) k.generation parts.1

-- a process has one live key
pub one_key : (s : TableState) (j k : Key) → IsTrue (is_live s j) → IsTrue (is_live s k) → j.process ≡ k.process → j ≡ k
one_key s j k live_j live_k same =
    let generation : j.generation ≡ k.generation = sym (generation_is s j live_j) ∙ ap (slice_index s.generations) same ∙ generation_is s k live_k in
    ap (λ n. record { process = n; generation = j.generation }) same ∙ ap (λ g. record { process = k.process; generation = g }) generation

-- what the process of a live key owns, the key owns
pub owner_is_key : (s : TableState) (k : Key) (n : ℕ) → Laws s → IsTrue (is_live s k) → owns s k.process n ≡ true → owner_of s n ≡ Some k
owner_is_key s k n laws live mine =
    let owner = owns_gives s k.process n mine in
    owner.1 ∙ ap Some (one_key s owner.0 k (laws.lawful.well_formed.owners n owner.0 owner.1) live owner.2)

-- ---- a number that is free

-- a request for it is granted
pub free_granted : (s u : TableState) (k : Key) (n : ℕ) (answer : Locked) → owner_of s n ≡ None → Locks s k n (Ok answer) u → Locks s k n (Ok locked.Granted) u
free_granted s u k n locked.Granted free locks = locks
free_granted s u k n (locked.Waits h) free locks = absurd (some_not_none (owner_of s n) h (queued_is s u k h n locks.0).held free)
free_granted s u k n (locked.Deadlock h) free locks = absurd (some_not_none (owner_of s n) h locks.owner free)

-- ---- the names

pub interned_name : (t u : NameTable) (name : List ℕ) (n : ℕ) → Interns t name n u → name_of u n ≡ Some name
interned_name t u name n (inl known) = ap (λ v. name_of v n) known.1 ∙ known.0
interned_name t u name n (inr fresh) = ap (λ v. name_of v n) fresh.2 ∙ get_or-set_same t.names n (Some name) None fresh.1.0

module _ (s : TableState) (t : NameTable) (numbered : AreNumbered s t) (u : NameTable) (name : List ℕ) (n : ℕ) where
  -- the name of a number that is owned was known
  pub owned_is_known : (h : Key) → owner_of s n ≡ Some h → Interns t name n u → (name_of t n ≡ Some name) × (u ≡ t)
  owned_is_known h held (inl known) = known
  owned_is_known h held (inr fresh) = absurd (some_not_none (owner_of s n) h held ((numbered.named n).0 fresh.1.1))

  -- the name of a number that is free is new
  pub free_is_new : owner_of s n ≡ None → Interns t name n u → (n < length t.names) × (u ≡ with_name t n (Some name))
  free_is_new free (inl known) = absurd (some_not_none (name_of t n) name known.0 ((numbered.named n).1 free))
  free_is_new free (inr fresh) = (fresh.1.0, fresh.2)

  pub numbered_granted : Laws s → (k : Key) (v : TableState) → IsGranted s k n v → Interns t name n u → AreNumbered v u
  numbered_granted laws k v granted interned =
      let new = free_is_new granted.free interned in
      rw new.1 (numbered_set s t numbered laws n new.0 (Some k) (Some name)
      ((λ never. (let no : Some name ≡ None = never in absurd (cc))), (λ never. (let no : Some k ≡ None = never in absurd (cc)))) v granted.owners granted.config)

  pub numbered_queued : (k h : Key) (v : TableState) → IsQueued s k n h v → Interns t name n u → AreNumbered v u
  numbered_queued k h v queued interned = rw (owned_is_known h queued.held interned).1 (numbered_alike s t numbered v queued.owners queued.config)

-- ---- a try for a number that is owned

pub same_key : (h k : Key) → (nat_eq h.process k.process && nat_eq h.generation k.generation) ≡ true → h ≡ k
same_key h k same =
    let parts = and_parts (nat_eq h.process k.process) (nat_eq h.generation k.generation) same in
    ap (λ n. record { process = n; generation = h.generation }) (eqb-true h.process k.process parts.0) ∙ ap (λ g. record { process = k.process; generation = g }) (eqb-true h.generation k.generation parts.1)

pub key_itself : (k : Key) → (nat_eq k.process k.process && nat_eq k.generation k.generation) ≡ true
key_itself k = rw (eq-eqb k.process k.process refl, eq-eqb k.generation k.generation refl) refl

pub other_key : (h k : Key) → (nat_eq h.process k.process && nat_eq h.generation k.generation) ≡ false → h ≢ k
other_key h k apart same =
    let is : (nat_eq h.process k.process && nat_eq h.generation k.generation) ≡ true = subst (λ (g : Key). (nat_eq g.process k.process && nat_eq g.generation k.generation) ≡ true) (sym same) (key_itself k) in
    let never : true ≡ false = sym is ∙ apart in
    absurd (cc)

found_by_test : (P : TryLock → Type 0) (h k : Key) → (h ≡ k → P tried.Held) → (h ≢ k → P (tried.Busy h)) → (b : Bool) → (b ≡ true → h ≡ k) → (b ≡ false → h ≢ k) → P (if b then tried.Held else tried.Busy h)
found_by_test P h k held busy true mine apart = held (mine refl)
found_by_test P h k held busy false mine apart = busy (apart refl)

-- by whether the owner is k
found_by : (P : TryLock → Type 0) (h k : Key) → (h ≡ k → P tried.Held) → (h ≢ k → P (tried.Busy h)) → P (tried_by h k)
found_by P h k held busy = found_by_test P h k held busy (nat_eq h.process k.process && nat_eq h.generation k.generation) (same_key h k) (other_key h k)

module _ (s : TableState) (t u : NameTable) (k h : Key) (name : List ℕ) (n : ℕ) (named : name_of t n ≡ Some name) (owned : owner_of s n ≡ Some h) (same : u ≡ t) where
  mine : h ≡ k → owner_of s n ≡ Some k
  mine is = owned ∙ ap Some is

  -- a try for it finds it so
  pub tried_finds : Tries s t k name (tried_by h k) s u
  tried_finds = found_by (λ answer. Tries s t k name answer s u) h k (λ is. ((n, named, mine is), refl, same)) (λ apart. (apart, ((n, named, owned), refl, same)))

  -- and so does an adoption
  pub adoption_finds : AdoptsNumber s t k name (tried_by h k) s u
  adoption_finds = found_by (λ answer. AdoptsNumber s t k name answer s u) h k (λ is. ((n, named, mine is), refl, same)) (λ apart. (apart, ((n, named, owned), refl, same)))

-- ---- a try and an adoption that get no number

-- where the transaction may ask and an event can be counted, the name alone decides
pub name_decides : (s : TableState) (name_bytes : ℕ) (k : Key) (name : List ℕ) → may_ask s k ≡ Ok tt → s.totals.accepted < event_limit → may_request s name_bytes k name ≡ may_name name_bytes name
name_decides s name_bytes k name may few =
    ap (λ r. first_refusal r (first_refusal (may_count s) (may_name name_bytes name))) may
    ∙ ap (λ (b : Bool). first_refusal (if b then Ok tt else Err CountsFull) (may_name name_bytes name)) (lt-ltb s.totals.accepted event_limit few)

pub try_refused : (s : TableState) (t : NameTable) (k : Key) (name : List ℕ) (refusal : Refusal) → may_ask s k ≡ Ok tt → s.totals.accepted < event_limit
    → (may_name t.name_bytes name ≡ Err refusal) ⊎ ((may_name t.name_bytes name ≡ Ok tt) × (refusal ≡ NamesFull) × IsRefusedAsFull t name) → TryRefusedByNames (bare s t) k name refusal
try_refused s t k name refusal may few (inl out) = inl (name_decides s t.name_bytes k name may few ∙ out)
try_refused s t k name refusal may few (inr full) = inr (name_decides s t.name_bytes k name may few ∙ full.0, full.1, full.2)

-- where the transaction may own one name more, the name alone decides
pub adoption_decides : (s : TableState) (name_bytes : ℕ) (k : Key) (name : List ℕ) → may_own s k ≡ Ok tt → may_adopt s name_bytes k name ≡ may_name name_bytes name
adoption_decides s name_bytes k name may = ap (λ r. first_refusal r (may_name name_bytes name)) may

pub adoption_refused : (s : TableState) (t : NameTable) (k : Key) (name : List ℕ) (refusal : Refusal) → may_own s k ≡ Ok tt
    → (may_name t.name_bytes name ≡ Err refusal) ⊎ ((may_name t.name_bytes name ≡ Ok tt) × (refusal ≡ NamesFull) × IsRefusedAsFull t name) → AdoptRefused (bare s t) k name refusal
adoption_refused s t k name refusal may (inl out) = inl (adoption_decides s t.name_bytes k name may ∙ out)
adoption_refused s t k name refusal may (inr full) = inr (adoption_decides s t.name_bytes k name may ∙ full.0, full.1, full.2)

-- what holds of the refusal holds of the reply
pub if_refused : {A : Type 0} (reply : Result A Refusal) (refusal : Refusal) (P : Refusal → Type 0) → IsErr reply × IsErrAnd reply (λ x. x ≡ refusal) → P refusal → IfErr reply P
if_refused (Ok value) refusal P is holds = tt
if_refused (Err other) refusal P is holds = subst P (sym is.1) holds

pub if_ok_refused : {A : Type 0} (reply : Result A Refusal) (P : A → Type 0) → IsErr reply → IfOk reply P
if_ok_refused (Ok value) P is = absurd (cc)
if_ok_refused (Err other) P is = tt

pub on_ok_refused : {A : Type 0} (reply : Result A Refusal) (P : Type 0) → IsErr reply → OnOk reply P
on_ok_refused (Ok value) P is = absurd (cc)
on_ok_refused (Err other) P is = tt

pub on_refused : {A : Type 0} (reply : Result A Refusal) (P : Type 0) → P → OnErr reply P
on_refused (Ok value) P holds = tt
on_refused (Err other) P holds = holds

-- what follows from what holds of an accepted reply holds of it, and so for a refused one
pub on_ok_so : {A : Type 0} (reply : Result A Refusal) (P Q : Type 0) → (P → Q) → OnOk reply P → OnOk reply Q
on_ok_so (Ok value) P Q so holds = so holds
on_ok_so (Err other) P Q so holds = tt

pub on_err_so : {A : Type 0} (reply : Result A Refusal) (P Q : Type 0) → (P → Q) → OnErr reply P → OnErr reply Q
on_err_so (Ok value) P Q so holds = tt
on_err_so (Err other) P Q so holds = so holds
