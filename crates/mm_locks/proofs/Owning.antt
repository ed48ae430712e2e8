-- Who is told that it owns a name owns it.
use Rattle.std.proofs.Common.{◌≡◌, ℕ, List, Result, Ok, Err, sym, ap, ◌∙◌, subst, inl, inr}
use Rattle.std.specs.Prelude.{slice_get}
use Rattle.mm_arena.specs.declared.key.Key.{Key}
use Rattle.mm_manager.specs.LockState.{LockState, Owns}
use Rattle.mm_manager.specs.Calls.{LocksName, TriesName}
use Rattle.mm_manager.specs.declared.refusal.Refusal.{Refusal}
use Rattle.mm_manager.specs.declared.reply.Lock.{Lock}
use Rattle.mm_manager.specs.declared.reply.Lock.TheVariants as lock
use Rattle.mm_manager.specs.declared.reply.TryLock.{TryLock}
use Rattle.mm_manager.specs.declared.reply.TryLock.TheVariants as trylock
use Rattle.mm_desk.specs.Desk.{DeskState}
use Rattle.mm_desk.specs.Calls.{AsksAt, AsksNamed, TriesAt, TriesNamed, asked_of, tried_of}
use Rattle.mm_desk.specs.declared.reply.Asked.TheVariants as asked
use Rattle.mm_desk.specs.declared.reply.Tried.TheVariants as tried
use Rattle.mm_locks.specs.Granted.{OwnsAt}

-- ---- a request

granted_by : (old : LockState) (k : Key) (name : List ℕ) (told : Result Lock Refusal) (new : LockState) → LocksName old k name told new → Ok asked.Granted ≡ asked_of told → Owns new k name
granted_by old k name (Ok lock.Granted) new locks is = locks.owns
granted_by old k name (Ok lock.Held) new locks is = absurd (cc)
granted_by old k name (Ok (lock.Waits h)) new locks is = absurd (cc)
granted_by old k name (Ok (lock.Deadlock h)) new locks is = absurd (cc)
granted_by old k name (Err refusal) new locks is = absurd (cc)

held_by : (old : LockState) (k : Key) (name : List ℕ) (told : Result Lock Refusal) (new : LockState) → LocksName old k name told new → Ok asked.Held ≡ asked_of told → Owns new k name
held_by old k name (Ok lock.Granted) new locks is = absurd (cc)
held_by old k name (Ok lock.Held) new locks is = subst (λ (m : LockState). Owns m k name) (sym locks.1) locks.0
held_by old k name (Ok (lock.Waits h)) new locks is = absurd (cc)
held_by old k name (Ok (lock.Deadlock h)) new locks is = absurd (cc)
held_by old k name (Err refusal) new locks is = absurd (cc)

module _ (old : DeskState) (at : ℕ) (name : List ℕ) (new : DeskState) where
  granted_named : AsksNamed old at name (Ok asked.Granted) new → OwnsAt new at name
  granted_named (inl made) = subst (λ (d : DeskState). OwnsAt d at name) (sym made.2.4) (elim made.2.1 [
    | inl none ↦ absurd (cc)
    | inr told ↦ (told.0, ap (λ ks. slice_get ks at) made.2.3 ∙ told.2, granted_by made.0.manager told.0 name told.1 made.2.0.manager told.3 told.4)
  ])
  granted_named (inr unmade) = elim unmade.1 [ inl again ↦ absurd (cc) | inr refused ↦ (let never = refused.1 in absurd (cc)) ]

  pub granted_owns : AsksAt old at name (Ok asked.Granted) new → OwnsAt new at name
  granted_owns (inl refused) = (let never = refused.2 in absurd (cc))
  granted_owns (inr allowed) = granted_named allowed.1

  held_named : AsksNamed old at name (Ok asked.Held) new → OwnsAt new at name
  held_named (inl made) = subst (λ (d : DeskState). OwnsAt d at name) (sym made.2.4) (elim made.2.1 [
    | inl none ↦ absurd (cc)
    | inr told ↦ (told.0, ap (λ ks. slice_get ks at) made.2.3 ∙ told.2, held_by made.0.manager told.0 name told.1 made.2.0.manager told.3 told.4)
  ])
  held_named (inr unmade) = elim unmade.1 [ inl again ↦ absurd (cc) | inr refused ↦ (let never = refused.1 in absurd (cc)) ]

  pub held_owns : AsksAt old at name (Ok asked.Held) new → OwnsAt new at name
  held_owns (inl refused) = (let never = refused.2 in absurd (cc))
  held_owns (inr allowed) = held_named allowed.1

-- ---- a try

try_granted_by : (old : LockState) (k : Key) (name : List ℕ) (told : Result TryLock Refusal) (new : LockState) → TriesName old k name told new → Ok tried.Granted ≡ tried_of told → Owns new k name
try_granted_by old k name (Ok trylock.Granted) new tries is = tries.owns
try_granted_by old k name (Ok trylock.Held) new tries is = absurd (cc)
try_granted_by old k name (Ok (trylock.Busy h)) new tries is = absurd (cc)
try_granted_by old k name (Err refusal) new tries is = absurd (cc)

try_held_by : (old : LockState) (k : Key) (name : List ℕ) (told : Result TryLock Refusal) (new : LockState) → TriesName old k name told new → Ok tried.Held ≡ tried_of told → Owns new k name
try_held_by old k name (Ok trylock.Granted) new tries is = absurd (cc)
try_held_by old k name (Ok trylock.Held) new tries is = subst (λ (m : LockState). Owns m k name) (sym tries.1) tries.0
try_held_by old k name (Ok (trylock.Busy h)) new tries is = absurd (cc)
try_held_by old k name (Err refusal) new tries is = absurd (cc)

module _ (old : DeskState) (at : ℕ) (name : List ℕ) (new : DeskState) where
  try_granted_named : TriesNamed old at name (Ok tried.Granted) new → OwnsAt new at name
  try_granted_named (inl made) = subst (λ (d : DeskState). OwnsAt d at name) (sym made.2.4) (elim made.2.1 [
    | inl none ↦ absurd (cc)
    | inr told ↦ (told.0, ap (λ ks. slice_get ks at) made.2.3 ∙ told.2, try_granted_by made.0.manager told.0 name told.1 made.2.0.manager told.3 told.4)
  ])
  try_granted_named (inr unmade) = elim unmade.1 [ inl again ↦ absurd (cc) | inr refused ↦ (let never = refused.1 in absurd (cc)) ]

  pub try_granted_owns : TriesAt old at name (Ok tried.Granted) new → OwnsAt new at name
  try_granted_owns (inl refused) = (let never = refused.2 in absurd (cc))
  try_granted_owns (inr allowed) = try_granted_named allowed.1

  try_held_named : TriesNamed old at name (Ok tried.Held) new → OwnsAt new at name
  try_held_named (inl made) = subst (λ (d : DeskState). OwnsAt d at name) (sym made.2.4) (elim made.2.1 [
    | inl none ↦ absurd (cc)
    | inr told ↦ (told.0, ap (λ ks. slice_get ks at) made.2.3 ∙ told.2, try_held_by made.0.manager told.0 name told.1 made.2.0.manager told.3 told.4)
  ])
  try_held_named (inr unmade) = elim unmade.1 [ inl again ↦ absurd (cc) | inr refused ↦ (let never = refused.1 in absurd (cc)) ]

  pub try_held_owns : TriesAt old at name (Ok tried.Held) new → OwnsAt new at name
  try_held_owns (inl refused) = (let never = refused.2 in absurd (cc))
  try_held_owns (inr allowed) = try_held_named allowed.1
