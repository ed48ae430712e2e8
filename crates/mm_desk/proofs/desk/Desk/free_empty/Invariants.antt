use Rattle.mm_desk.specs.Calls.{KeepsManager}
use Rattle.mm_desk.proofs.desk.Desk.free_empty.Given as goal

abbrev pub invariant-loop-k : goal.invariant-loop-k
invariant-loop-k l = KeepsManager l.fn.self l.self
