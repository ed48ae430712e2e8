use Rattle.std.proofs.Common.{take}
use Rattle.mm_settled.specs.Calls.{NoneWaits}
use Rattle.mm_settled.proofs.settle.any_waits.Given as goal

abbrev pub invariant-loop-process : goal.invariant-loop-process
invariant-loop-process l = NoneWaits l.table (take l.process-index l.processes)
