use Rattle.std.proofs.Common.{◌≡◌, ◌≤◌, [], replicate, vec_capacity}
use Rattle.mm_queue.specs.private.Linked.{ends_of}
use Rattle.mm_queue.proofs.lists.Lists.new_wide.Given as goal

abbrev pub invariant-loop : goal.invariant-loop
invariant-loop l = (l.ends.items ≡ replicate l.counter (ends_of [])) × (l.lists ≤ vec_capacity l.ends)
