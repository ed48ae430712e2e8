use Rattle.mm_desk.specs.All.{FreesBelow}
use Rattle.mm_desk.specs.Calls.{KeepsManager}
use Rattle.mm_desk.proofs.desk.Desk.free_all.Given as goal

abbrev pub invariant-loop-bucket : goal.invariant-loop-bucket
invariant-loop-bucket l = KeepsManager l.fn.self l.self × FreesBelow l.fn.self l.bucket l.self
