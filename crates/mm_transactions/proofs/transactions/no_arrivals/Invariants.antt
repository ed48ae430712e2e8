use Rattle.std.proofs.Common.{◌≡◌, ◌≤◌, replicate, vec_capacity}
use Rattle.mm_transactions.proofs.transactions.no_arrivals.Given as goal

abbrev pub invariant-loop : goal.invariant-loop
invariant-loop l = (l.arrivals.items ≡ replicate l.counter 0) × (l.processes ≤ vec_capacity l.arrivals)
