use Rattle.std.proofs.Common.{◌≡◌, length}
use Rattle.test_rows.proofs.tests.queues.queues_keep_the_order.Given as goal

abbrev pub invariant-loop-step : goal.invariant-loop-step
invariant-loop-step g l = (length l.lists.lists ≡ 2) × (l.lists.processes ≡ 4)
