-- What is added to a set of processes.
use Rattle.std.specs.Prelude.{◌≡◌, ◌≢◌, ◌⊎◌, ℕ, Bool, true, List, length}
use Rattle.mm_lists.specs.Members.{Among}
use Rattle.mm_rules.specs.TableState.{Wait}
use Rattle.mm_bit_set.specs.BitSet.{has}

-- n was added, and nobody else
pub record Adds (n : ℕ) (old new : List Bool) : Type 0 where
  pub here : has new n ≡ true
  pub others : (k : ℕ) → k ≢ n → has new k ≡ has old k
  pub sized : length new ≡ length old

-- the processes of these waits were added, and nobody else
pub record AddsAll (ws : List Wait) (old new : List Bool) : Type 0 where
  pub kept : (n : ℕ) → has old n ≡ true → has new n ≡ true
  pub added : (w : Wait) → Among w ws → has new w.key.process ≡ true
  pub only : (n : ℕ) → has new n ≡ true → (has old n ≡ true) ⊎ ((w : Wait) × Among w ws × (w.key.process ≡ n))
  pub sized : length new ≡ length old
