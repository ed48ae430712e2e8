-- What a hint says.
use Rattle.std.specs.Prelude.{ℕ, ◌≡◌, ◌≤◌, ◌<◌, List, IsTrue}
use Rattle.mm_board.specs.Views.{label_at, IsAnother}
use Rattle.mm_label.specs.Label.{Label, label_lt}
use Rattle.mm_board.specs.declared.hint.Hint.{Hint}
use Rattle.mm_board.specs.declared.hint.HintKind.{HintKind}
use Rattle.mm_board.specs.declared.hint.HintKind.TheVariants.{Raise, Equal}

-- the holder's label is greater than that of the process, or the same
abbrev pub IsKind : HintKind → Label → Label → Type 0
IsKind Raise own its = IsTrue (label_lt own its)
IsKind Equal own its = own ≡ its

-- a hint of a process from this one on that waits for another one, by the labels that were seen
pub record IsHint (processes from : ℕ) (seen : List Label) (hint : Hint) : Type 0 where
  pub at_least : from ≤ hint.process
  pub process : hint.process < processes
  pub holder : IsAnother processes hint.process hint.holder
  pub kind : IsKind hint.kind (label_at seen hint.process) (label_at seen hint.holder)
