use Rattle.std.proofs.Common.{◌≡◌, ◌-◌}
use Rattle.mm_manager.specs.Reads.{live_from}
use Rattle.mm_manager.proofs.transactions.TransactionsIterator.next.Given as goal

-- only slots without a transaction were passed
abbrev pub invariant-loop-self : goal.invariant-loop-self
invariant-loop-self l = live_from l.self-inside.table.now l.self-inside.next ≡ l.fn.self

abbrev pub decreases-loop-self : goal.decreases-loop-self
decreases-loop-self l = l.self-inside.table.now.config.processes - l.self-inside.next
