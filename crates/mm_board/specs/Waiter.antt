-- What a walk along the processes finds.
use Rattle.std.specs.Prelude.{ℕ, ◌≤◌, ◌<◌}
use Rattle.mm_board.specs.declared.holder.Waiter.{Waiter}
use Rattle.mm_board.specs.Views.{IsAnother}

-- a process of a board with this many, from this one on, whose holder is another one
abbrev pub IsWaiter : ℕ → ℕ → Waiter → Type 0
IsWaiter processes from waiter = (from ≤ waiter.process) × (waiter.process < processes) × IsAnother processes waiter.process waiter.holder
