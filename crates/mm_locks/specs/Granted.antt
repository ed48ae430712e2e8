-- The workers and names for which a token was given out.
use Rattle.std.specs.Prelude.{◌≡◌, ◌≤◌, ℕ, List, Some, length, slice_get}
use Rattle.std.specs.Borrow.{Bor}
use Rattle.mm_arena.specs.declared.key.Key.{Key}
use Rattle.mm_manager.specs.LockState.{Owns}
use Rattle.mm_desk.specs.Desk.{DeskState}
use Rattle.mm_locks.specs.declared.hall.Outcome.{Outcome}
use Rattle.mm_locks.specs.declared.hall.Outcome.TheVariants as outcome
use Rattle.mm_locks.specs.declared.several.GrantedUpTo.{GrantedUpTo}
use Rattle.mm_locks.specs.declared.tokens.Granted.{Granted}

-- it is of this worker's transaction, and of this name
abbrev pub IsFor : ℕ → List ℕ → Granted → Type 0
IsFor at name granted = (granted.at ≡ at) × (granted.name.now ≡ name)

-- what a request has come to: if the name is owned, that is said of this worker's transaction and of this name
abbrev pub OwnsFor : ℕ → List ℕ → Outcome → Type 0
OwnsFor at name (outcome.Owns granted) = IsFor at name granted
OwnsFor at name found = Unit {0}

-- it is of this worker's transaction, and of each of these names
abbrev pub IsForAll : ℕ → List (Bor (List ℕ)) → GrantedUpTo → Type 0
IsForAll at names granted = (granted.at ≡ at) × (granted.names.now ≡ names) × (length names ≤ granted.place)

-- it is not to be asked again
abbrev pub IsSettled : Outcome → Type 0
IsSettled outcome.Again = ⊥
IsSettled found = Unit {0}

-- the transaction of a worker owns the name in the manager
abbrev pub OwnsAt : DeskState → ℕ → List ℕ → Type 0
OwnsAt d at name = (k : Key) × (slice_get d.keys at ≡ Some k) × Owns d.manager k name
