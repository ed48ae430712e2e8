use Rattle.std.proofs.Common.{◌≡◌, ◌≤◌, None, replicate, vec_capacity}
use Rattle.mm_arena.proofs.shelf.Shelf.new.Given as goal

abbrev pub invariant-loop : goal.invariant-loop
invariant-loop g l = (l.entries.items ≡ replicate l.counter None) × (l.capacity ≤ vec_capacity l.entries)
