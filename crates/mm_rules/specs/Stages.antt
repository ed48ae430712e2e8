-- Stages of an event, as the contracts of a table's private functions see them.
use Rattle.std.specs.Prelude.{◌≡◌, ◌≢◌, ℕ, List, fold}
use Rattle.std.specs.List.{AllByRecursion}
use Rattle.mm_rules.specs.TableState.{TableState, Wait}
use Rattle.mm_rules.specs.Change.{block, swept, total_raises}
use Rattle.mm_rules.specs.Event.{Settles}

-- each of these, in turn, is blocked on process h
abbrev pub blocked_on : TableState → ℕ → List Wait → TableState
blocked_on s h ws = fold (λ t w. block t w.key.process h) s ws

-- none of these is of process h
abbrev pub NoneIs : ℕ → List Wait → Type 0
NoneIs h ws = AllByRecursion (λ w. w.key.process ≢ h) ws

-- all sweeps of a settle lead from old to new, and raise this many labels
pub record IsSwept (old : TableState) (raises : ℕ) (new : TableState) : Type 0 where
  pub sweeps : ℕ
  pub settles : Settles old sweeps
  pub raised : raises ≡ total_raises old sweeps
  pub state : new ≡ swept old sweeps
