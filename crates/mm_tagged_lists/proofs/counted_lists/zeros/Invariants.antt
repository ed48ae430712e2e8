use Rattle.std.proofs.Common.{◌≡◌, ◌≤◌, replicate, vec_capacity}
use Rattle.mm_tagged_lists.proofs.counted_lists.zeros.Given as goal

abbrev pub invariant-loop : goal.invariant-loop
invariant-loop l = (l.zeros.items ≡ replicate l.counter 0) × (l.count ≤ vec_capacity l.zeros)
