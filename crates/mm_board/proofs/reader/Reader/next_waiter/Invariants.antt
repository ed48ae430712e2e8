use Rattle.std.proofs.Common.{◌≡◌, ◌≤◌}
use Rattle.mm_board.proofs.reader.Reader.next_waiter.Given as goal

abbrev pub invariant-loop-process : goal.invariant-loop-process
invariant-loop-process g l = (l.fn.from ≤ l.process) × (l.self ≡ l.fn.self)
