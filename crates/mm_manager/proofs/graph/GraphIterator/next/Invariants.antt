use Rattle.std.proofs.Common.{◌≡◌, ◌-◌}
use Rattle.mm_manager.specs.Reads.{waits_from}
use Rattle.mm_manager.proofs.graph.GraphIterator.next.Given as goal

-- only processes that do not wait were passed
abbrev pub invariant-loop-self : goal.invariant-loop-self
invariant-loop-self l = waits_from l.self-inside.table.now l.self-inside.next ≡ l.fn.self

abbrev pub decreases-loop-self : goal.decreases-loop-self
decreases-loop-self l = l.self-inside.table.now.config.processes - l.self-inside.next
