-- The sets of processes that a settle keeps: who may transmit, and who may newly detect.
use Rattle.std.specs.Prelude.{◌≡◌, ℕ, Bool, true, false, List, Some, length}
use Rattle.mm_bit_set.specs.BitSet.{has}
use Rattle.mm_rules.specs.TableState.{TableState, holder_of}
use Rattle.mm_rules.specs.Change.{can_transmit, can_detect}
use Rattle.mm_rules.specs.Laws.{Laws}

-- only the pending can transmit
abbrev pub ArePending : TableState → List Bool → Type 0
ArePending s pending = (k : ℕ) → has pending k ≡ false → can_transmit s k ≡ false

-- only those can newly detect that are pending or to be checked
abbrev pub AreToCheck : TableState → List Bool → List Bool → Type 0
AreToCheck s pending checks = (k : ℕ) → has pending k ≡ false → has checks k ≡ false → can_detect s k ≡ false

-- all that wait for n were added, and nobody was taken out
pub record AddsWaiters (s : TableState) (n : ℕ) (old new : List Bool) : Type 0 where
  pub kept : (k : ℕ) → has old k ≡ true → has new k ≡ true
  pub added : (k : ℕ) → holder_of s k ≡ Some n → has new k ≡ true
  pub sized : length new ≡ length old

-- what the sets of a settle are between its sweeps
pub record AreMarked (s : TableState) (pending checks : List Bool) : Type 0 where
  pub laws : Laws s
  pub transmits : ArePending s pending
  pub detects : AreToCheck s pending checks
  pub pending_sized : length pending ≡ s.config.processes
  pub checks_sized : length checks ≡ s.config.processes

-- nobody is in the set
abbrev pub IsNoneMarked : List Bool → Type 0
IsNoneMarked marks = (k : ℕ) → has marks k ≡ false

-- nobody can transmit or newly detect
pub record NoneCan (s : TableState) : Type 0 where
  pub transmits : (k : ℕ) → can_transmit s k ≡ false
  pub detects : (k : ℕ) → can_detect s k ≡ false

abbrev pub SameLengths : List Bool → List Bool → Type 0
SameLengths old new = length new ≡ length old

-- each set has a place for each process
pub record SetsAreSized (s : TableState) (changed pending checks : List Bool) : Type 0 where
  pub changed_sized : length changed ≡ s.config.processes
  pub pending_sized : length pending ≡ s.config.processes
  pub checks_sized : length checks ≡ s.config.processes
