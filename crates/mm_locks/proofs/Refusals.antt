-- What the calls of the desk are refused for.
use Rattle.std.proofs.Common.{◌≡◌, inl, inr, ℕ, Bool, true, false, List, Option, Some, None, Result, Ok, Err, refl, sym, subst}
use Rattle.std.specs.Prelude.{IfErr, if◌then◌else◌, length, nat_eq, nat_lt}
use Rattle.mm_arena.specs.declared.key.Key.{Key}
use Rattle.mm_rules.specs.TableState.{TableState, is_live, wait_of}
use Rattle.mm_manager.specs.LockState.{LockState}
use Rattle.mm_manager.specs.Permit.{event_limit, first_refusal, may_adopt, may_ask, may_ask_for, may_ask_in, may_count, may_name, may_own, may_request}
use Rattle.mm_manager.specs.Refused.{LockRefused, TryRefused}
use Rattle.mm_manager.specs.Calls.{LocksName, TriesName}
use Rattle.mm_manager.specs.declared.refusal.Refusal.{Refusal}
use Rattle.mm_manager.specs.declared.refusal.Refusal.TheVariants.{NoTransaction, Waiting, NameEmpty, NameTooLong, NamesFull, TooManyNames, LabelsFull, CountsFull}
use Rattle.mm_manager.specs.declared.reply.Lock.{Lock}
use Rattle.mm_manager.specs.declared.reply.Lock.TheVariants as lock
use Rattle.mm_manager.specs.declared.reply.TryLock.{TryLock}
use Rattle.mm_manager.specs.declared.reply.TryLock.TheVariants as trylock
use Rattle.mm_desk.specs.Desk.{DeskState}
use Rattle.mm_desk.specs.Calls.{AsksAt, FailsToAdopt, TriesAt, UnlocksAt, asked_of, tried_of}
use Rattle.mm_desk.specs.declared.reply.Unlocked.{Unlocked}
use Rattle.mm_desk.specs.declared.reply.Unlocked.TheVariants as unlocked
use Rattle.mm_locks.specs.Calls.{ended_of, told_of}
use Rattle.mm_locks.specs.Errors.{error_of, of_lock, of_try, of_unlock}
use Rattle.mm_locks.specs.declared.error.LockError.TheVariants.{NotActive}

-- an answer that is this refusal
abbrev refuses : {T : Type 0} → Refusal → Result T Refusal
refuses r = Err r

-- one that is no refusal
abbrev no_refusal : Result (Unit {0}) Refusal
no_refusal = Ok tt

module _ (P : Refusal → Type 0) where
  -- of a refusal holds what holds of the one that it is
  is_so : {T : Type 0} (a r : Refusal) → P a → refuses {T = T} a ≡ refuses {T = T} r → P r
  is_so a r p is = (let same : a ≡ r = cc is in subst P same p)

  if_so : (b : Bool) (a r : Refusal) (rest : Result (Unit {0}) Refusal) → P a → (rest ≡ Err r → P r) → (if b then Err a else rest) ≡ Err r → P r
  if_so true a r rest p q is = is_so a r p is
  if_so false a r rest p q is = q is

  if_not : (b : Bool) (a r : Refusal) (rest : Result (Unit {0}) Refusal) → P a → (rest ≡ Err r → P r) → (if b then rest else Err a) ≡ Err r → P r
  if_not true a r rest p q is = q is
  if_not false a r rest p q is = is_so a r p is

  first_of : (x y : Result (Unit {0}) Refusal) (r : Refusal) → (x ≡ Err r → P r) → (y ≡ Err r → P r) → first_refusal x y ≡ Err r → P r
  first_of (Ok passed) y r p q is = q is
  first_of (Err refusal) y r p q is = p is

  never : (r : Refusal) → no_refusal ≡ Err r → P r
  never r is = absurd (cc is)

  by_name : P NameEmpty → P NameTooLong → (bytes : ℕ) (name : List ℕ) (r : Refusal) → may_name bytes name ≡ Err r → P r
  by_name empty long bytes name r is =
      if_so (nat_eq (length name) 0) NameEmpty r (if nat_lt bytes (length name) then Err NameTooLong else Ok tt) empty (λ rest. if_so (nat_lt bytes (length name)) NameTooLong r (Ok tt) long (never r) rest) is

  module _ (none : P NoTransaction) (empty : P NameEmpty) (long : P NameTooLong) (s : TableState) (k : Key) (bytes : ℕ) (name : List ℕ) where
    module _ (waits : P Waiting) where
      by_wait : (w : Option ℕ) (r : Refusal) → may_ask_in w ≡ Err r → P r
      by_wait None r is = never r is
      by_wait (Some n) r is = is_so Waiting r waits is

      by_asking : (r : Refusal) → may_ask s k ≡ Err r → P r
      by_asking r is = if_not (is_live s k) NoTransaction r (may_ask_in (wait_of s k.process)) none (by_wait (wait_of s k.process) r) is

      -- an unlock
      pub by_unlock : (r : Refusal) → may_ask_for s bytes k name ≡ Err r → P r
      by_unlock r is = first_of (may_ask s k) (may_name bytes name) r (by_asking r) (by_name empty long bytes name r) is

    module _ (counts : P CountsFull) where
      by_count : (r : Refusal) → may_count s ≡ Err r → P r
      by_count r is = if_not (nat_lt s.totals.accepted event_limit) CountsFull r (Ok tt) counts (never r) is

      by_owning : (r : Refusal) → may_own s k ≡ Err r → P r
      by_owning r is = if_not (is_live s k) NoTransaction r (may_count s) none (by_count r) is

      -- an adoption
      pub by_adoption : (r : Refusal) → may_adopt s bytes k name ≡ Err r → P r
      by_adoption r is = first_of (may_own s k) (may_name bytes name) r (by_owning r) (by_name empty long bytes name r) is

      -- a request
      pub by_request : P Waiting → (r : Refusal) → may_request s bytes k name ≡ Err r → P r
      by_request waits r is = first_of (may_ask s k) (first_refusal (may_count s) (may_name bytes name)) r (by_asking waits r)
          (λ rest. first_of (may_count s) (may_name bytes name) r (by_count r) (by_name empty long bytes name r) rest) is

-- ---- requests and tries

-- the refusals that both have
abbrev AreBoth : (Refusal → Type 0) → Type 0
AreBoth P = P NoTransaction × P Waiting × P CountsFull × P NameEmpty × P NameTooLong × P NamesFull × P TooManyNames

module _ (P : Refusal → Type 0) (p : AreBoth P) where
  by_try : (m : LockState) (k : Key) (name : List ℕ) (r : Refusal) → TryRefused m k name r → P r
  by_try m k name r (inl may) = by_request P p.0 p.3 p.4 m.table k m.names.name_bytes name p.2 p.1 r may
  by_try m k name r (inr (inl many)) = subst P (sym many.0) p.6
  by_try m k name r (inr (inr full)) = subst P (sym full.0) p.5

  not_adopted : (d : DeskState) (bucket : ℕ) (r : Refusal) (new : DeskState) → FailsToAdopt d bucket r new → P r
  not_adopted d bucket r new (inl is) = subst P (sym is) p.0
  not_adopted d bucket r new (inr tried) = elim tried.5.1 [
    | inl may ↦ by_adoption P p.0 p.3 p.4 d.manager.table tried.0 d.manager.names.name_bytes tried.2 p.2 r may
    | inr full ↦ subst P (sym full.1) p.5
  ]

  by_lock : P LabelsFull → (m : LockState) (k : Key) (name : List ℕ) (r : Refusal) → LockRefused m k name r → P r
  by_lock labels m k name r (inl tries) = by_try m k name r tries
  by_lock labels m k name r (inr few) = subst P (sym few.0) labels

  locked : P LabelsFull → (m : LockState) (k : Key) (name : List ℕ) (told : Result Lock Refusal) (after : LockState) (r : Refusal) → LocksName m k name told after → Err r ≡ asked_of told → P r
  locked labels m k name (Ok lock.Granted) after r locks is = absurd (cc is)
  locked labels m k name (Ok lock.Held) after r locks is = absurd (cc is)
  locked labels m k name (Ok (lock.Waits h)) after r locks is = absurd (cc is)
  locked labels m k name (Ok (lock.Deadlock h)) after r locks is = absurd (cc is)
  locked labels m k name (Err refusal) after r locks is = is_so P refusal r (by_lock labels m k name refusal locks.1) (sym is)

  tried : (m : LockState) (k : Key) (name : List ℕ) (told : Result TryLock Refusal) (after : LockState) (r : Refusal) → TriesName m k name told after → Err r ≡ tried_of told → P r
  tried m k name (Ok trylock.Granted) after r tries is = absurd (cc is)
  tried m k name (Ok trylock.Held) after r tries is = absurd (cc is)
  tried m k name (Ok (trylock.Busy h)) after r tries is = absurd (cc is)
  tried m k name (Err refusal) after r tries is = is_so P refusal r (by_try m k name refusal tries.1) (sym is)

  asks : P LabelsFull → (old : DeskState) (at : ℕ) (name : List ℕ) (r : Refusal) (new : DeskState) → AsksAt old at name (Err r) new → P r
  asks labels old at name r new (inl refused) = is_so P refused.0 r (by_name P p.3 p.4 old.manager.names.name_bytes name refused.0 refused.1) (sym refused.2)
  asks labels old at name r new (inr asked) = elim asked.1 [
    | inl made ↦ elim made.2.1 [
      | inl none ↦ is_so P NoTransaction r p.0 (sym none.1)
      | inr told ↦ locked labels made.0.manager told.0 name told.1 made.2.0.manager r told.3 told.4
    ]
    | inr unmade ↦ elim unmade.1 [
      | inl again ↦ absurd (cc again)
      | inr refused ↦ is_so P refused.0 r (not_adopted old _ refused.0 new refused.2) (sym refused.1)
    ]
  ]

  tries : (old : DeskState) (at : ℕ) (name : List ℕ) (r : Refusal) (new : DeskState) → TriesAt old at name (Err r) new → P r
  tries old at name r new (inl refused) = is_so P refused.0 r (by_name P p.3 p.4 old.manager.names.name_bytes name refused.0 refused.1) (sym refused.2)
  tries old at name r new (inr asked) = elim asked.1 [
    | inl made ↦ elim made.2.1 [
      | inl none ↦ is_so P NoTransaction r p.0 (sym none.1)
      | inr told ↦ tried made.0.manager told.0 name told.1 made.2.0.manager r told.3 told.4
    ]
    | inr unmade ↦ elim unmade.1 [
      | inl again ↦ absurd (cc again)
      | inr refused ↦ is_so P refused.0 r (not_adopted old _ refused.0 new refused.2) (sym refused.1)
    ]
  ]

pub asks_refused : (old : DeskState) (at : ℕ) (name : List ℕ) (r : Refusal) (new : DeskState) → AsksAt old at name (Err r) new → of_lock (error_of r) ≡ true
asks_refused = asks (λ r. of_lock (error_of r) ≡ true) (refl, refl, refl, refl, refl, refl, refl) refl

pub tries_refused : (old : DeskState) (at : ℕ) (name : List ℕ) (r : Refusal) (new : DeskState) → TriesAt old at name (Err r) new → of_try (error_of r) ≡ true
tries_refused = tries (λ r. of_try (error_of r) ≡ true) (refl, refl, refl, refl, refl, refl, refl)

-- ---- ends

pub unlocks_refused : (old : DeskState) (at : ℕ) (name : List ℕ) (answer : Result Unlocked Refusal) (new : DeskState) → UnlocksAt old at name answer new → IfErr (told_of answer) (λ error. of_unlock error ≡ true)
unlocks_refused old at name (Ok unlocked.Done) new made = tt
unlocks_refused old at name (Ok unlocked.NotLetGo) new made = refl
unlocks_refused old at name (Err refusal) new (inl none) = subst (λ r. of_unlock (error_of r) ≡ true) (sym none.1) refl
unlocks_refused old at name (Err refusal) new (inr asked) = elim asked.2.1 [
  | inl may ↦ by_unlock (λ r. of_unlock (error_of r) ≡ true) refl refl refl old.manager.table asked.0 old.manager.names.name_bytes name refl refusal may
  | inr owned ↦ subst (λ r. of_unlock (error_of r) ≡ true) (sym owned.1) refl
]

-- a commit that is not made is refused
pub not_ended : (answer : Result Unlocked Refusal) → (answer ≡ Ok unlocked.Done → ⊥) → Err NotActive ≡ ended_of answer
not_ended (Ok unlocked.Done) never = absurd (never refl)
not_ended (Ok unlocked.NotLetGo) never = refl
not_ended (Err refusal) never = refl
