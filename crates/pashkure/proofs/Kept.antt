-- A handle whose manager was only read, and what is so of any manager that is read.
use Rattle.std.proofs.Common.{◌≡◌, ◌∙◌, ℕ, List, Option, Some, None, ap, sym, refl}
use Rattle.mm_arena.specs.declared.key.Key.{Key}
use Rattle.mm_names.specs.Names.{name_of}
use Rattle.mm_rules.specs.TableState.{owner_of}
use Rattle.mm_manager.specs.LockState.{LockState, Owns, IsLawful}
use Rattle.pashkure.specs.Lending.{with_state}
use Rattle.pashkure.specs.declared.handle.Handle.{Handle}

-- the manager that was lent is the handle's
pub lent : (old mid : Handle) (m : LockState) → mid ≡ old → m ≡ mid.locks → m ≡ old.locks
lent old mid m same value = value ∙ ap (λ (h : Handle). h.locks) same

-- and the handle is as it was
pub kept : (old mid : Handle) (m : LockState) → mid ≡ old → m ≡ mid.locks → with_state mid m ≡ old
kept old mid m same value = ap (with_state mid) value ∙ same

owned_by : (m : LockState) → IsLawful m → (n : ℕ) (name : List ℕ) → name_of m.names n ≡ Some name → (o : Option Key) → owner_of m.table n ≡ o → (k : Key) × Owns m k name
owned_by m laws n name named None is = (let never : None ≡ Some name = sym ((laws.numbered n).1 is) ∙ named in absurd (cc))
owned_by m laws n name named (Some k) is = (k, (n, named, is))

-- a name that a number has is owned
pub named_is_owned : (m : LockState) → IsLawful m → (n : ℕ) (name : List ℕ) → name_of m.names n ≡ Some name → (k : Key) × Owns m k name
named_is_owned m laws n name named = owned_by m laws n name named (owner_of m.table n) refl
