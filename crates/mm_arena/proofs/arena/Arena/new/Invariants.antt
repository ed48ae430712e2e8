use Rattle.std.proofs.Common.{◌≡◌, ◌≤◌, replicate, vec_capacity}
use Rattle.mm_arena.proofs.Lemmas.OpeningSlots.{new_slot}
use Rattle.mm_arena.proofs.arena.Arena.new.Given as goal

abbrev pub invariant-loop : goal.invariant-loop
invariant-loop g l = (l.slots.items ≡ replicate l.counter new_slot) × (l.capacity ≤ vec_capacity l.slots)
