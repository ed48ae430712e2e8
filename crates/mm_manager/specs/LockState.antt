-- What a contract sees of a lock manager, and who owns and who waits for which name. A name is a list of bytes.
use Rattle.std.specs.Prelude.{◌≡◌, ◌≢◌, ◌↔◌, ◌≤◌, ◌<◌, ◌&&◌, ℕ, Bool, true, not, nat_eq, nat_le, List, [], length, Some, None, is_some, if◌then◌else◌}
use Rattle.mm_arena.specs.declared.key.Key.{Key}
use Rattle.mm_names.specs.Names.{NameTable, name_of, IsLawful as IsLawfulNames}
use Rattle.mm_rules.specs.TableState.{TableState, is_live, owned_count, owner_of, wait_of}
use Rattle.mm_rules.specs.Laws.{Laws, AtRest}
use Rattle.mm_rules.specs.TakeBack.{HasNoVictim, NobodyWaitsForItself}
use Rattle.mm_settled.specs.declared.reply.Grant.{Grant}
use Rattle.mm_manager.specs.Totals.{all_of}
use Rattle.mm_manager.specs.declared.totals.Totals.{Totals}

pub record LockState : Type 0 where
  pub table : TableState  -- its resources are the numbers of names
  pub names : NameTable
  pub granted : List Grant  -- the grants of the last call, in order
  pub totals : Totals  -- what was counted since the opening
  pub names_each : ℕ  -- how many names a transaction may own; 0: as many as there are

-- k owns the name
abbrev pub Owns : LockState → Key → List ℕ → Type 0
Owns m k name = (n : ℕ) × (name_of m.names n ≡ Some name) × (owner_of m.table n ≡ Some k)

-- the transaction in k's process waits for the name
abbrev pub Waits : LockState → Key → List ℕ → Type 0
Waits m k name = (n : ℕ) × (name_of m.names n ≡ Some name) × (wait_of m.table k.process ≡ Some n)

-- nobody owns the name
abbrev pub IsUnowned : LockState → List ℕ → Type 0
IsUnowned m name = (k : Key) → ¬ Owns m k name

-- k owns as many names as a transaction may
abbrev pub has_all : LockState → Key → Bool
has_all m k = not (nat_eq m.names_each 0) && nat_le m.names_each (owned_count m.table k)

-- the same, with nothing told
abbrev pub untold : LockState → LockState
untold m = record m { granted = [] }

-- a number that is owned keeps its name, and no other one has one; how many numbers there are and how many bytes a name may have stays
pub record KeepOwned (old : NameTable) (table : TableState) (new : NameTable) : Type 0 where
  pub named : (n : ℕ) → name_of new n ≡ (if is_some (owner_of table n) then name_of old n else None)
  pub numbers : length new.names ≡ length old.names
  pub name_bytes : new.name_bytes ≡ old.name_bytes

-- what holds of any manager that a caller can hold
pub record IsLawful (m : LockState) : Type 0 where
  pub laws : Laws m.table  -- those of the table
  pub rest : AtRest m.table
  pub none : HasNoVictim m.table  -- no verdict stands
  pub apart : NobodyWaitsForItself m.table  -- directly or over others
  pub names : IsLawfulNames m.names  -- no two numbers have one name
  pub numbered : (n : ℕ) → (name_of m.names n ≡ None) ↔ (owner_of m.table n ≡ None)  -- a number has a name exactly while it has an owner
  pub waited : (k : Key) (name : List ℕ) → Waits m k name → (h : Key) × Owns m h name × (h.process ≢ k.process)  -- who waits, waits for an owner
  pub slots : (k : Key) → is_live m.table k ≡ true → k.process < m.table.config.processes  -- a live transaction has one of the slots
  pub alone : (j k : Key) → is_live m.table j ≡ true → is_live m.table k ≡ true → j.process ≡ k.process → j ≡ k  -- no two have one slot
  pub counted : all_of m.totals ≤ m.table.totals.accepted  -- the counts together are no more than the events

-- k has one of the slots, and no other live transaction has that one
abbrev pub HasOwnSlot : LockState → Key → Type 0
HasOwnSlot m k = (k.process < m.table.config.processes) × ((other : Key) → is_live m.table other ≡ true → other.process ≡ k.process → other ≡ k)
