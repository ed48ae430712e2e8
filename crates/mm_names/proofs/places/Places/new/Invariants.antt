use Rattle.std.proofs.Common.{◌≡◌, ◌≤◌, None, replicate, vec_capacity}
use Rattle.mm_names.proofs.places.Places.new.Given as goal

abbrev pub invariant-lengths : goal.invariant-lengths
invariant-lengths l = (l.lengths.items ≡ replicate l.counter None) × (l.numbers ≤ vec_capacity l.lengths)
