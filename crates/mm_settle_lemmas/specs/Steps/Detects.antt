-- The detects of those that are left to check, in ascending order. They are the detects of all that wait.
use Rattle.std.specs.Prelude.{◌≡◌, ◌≤◌, ◌<◌, ◌+◌, ℕ, Bool, false, List, length, fold, count_by}
use Rattle.mm_bit_set.specs.BitSet.{has}
use Rattle.mm_rules.specs.TableState.{TableState, waiting_processes}
use Rattle.mm_rules.specs.Change.{can_detect, detect}
use Rattle.mm_rules.specs.Laws.{Laws}
use Rattle.mm_settle_lemmas.specs.Steps.Pass.{ahead}

-- the detects of s, if each process below this place had its turn, and this many verdicts were given
pub record IsDetecting (s : TableState) (from verdicts : ℕ) (checks : List Bool) (now : TableState) : Type 0 where
  pub state : fold detect now (ahead from s.config.processes) ≡ fold detect s (waiting_processes s)
  pub counted : verdicts + count_by (can_detect now) (ahead from s.config.processes) ≡ count_by (can_detect s) (waiting_processes s)
  pub detects : (k : ℕ) → from ≤ k → has checks k ≡ false → can_detect now k ≡ false
  pub below : (k : ℕ) → k < from → has checks k ≡ false
  pub done : (k : ℕ) → k < from → can_detect now k ≡ false
  pub laws : Laws now
  pub config : now.config ≡ s.config
  pub sized : length checks ≡ s.config.processes
  pub total : now.totals.verdicts ≡ s.totals.verdicts + verdicts
  pub few : verdicts ≤ from
  pub within : from ≤ s.config.processes

-- all detects; nobody is left to check
pub record IsDetected (s : TableState) (verdicts : ℕ) (checks : List Bool) (new : TableState) : Type 0 where
  pub state : new ≡ fold detect s (waiting_processes s)
  pub counted : verdicts ≡ count_by (can_detect s) (waiting_processes s)
  pub none : (k : ℕ) → has checks k ≡ false
  pub done : (k : ℕ) → can_detect new k ≡ false
  pub sized : length checks ≡ s.config.processes
