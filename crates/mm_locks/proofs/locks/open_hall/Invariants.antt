use Rattle.std.specs.Prelude.{◌≡◌, ◌≤◌, vec_len, vec_capacity}
use Rattle.mm_locks.proofs.locks.open_hall.Given as goal

abbrev pub invariant-loop : goal.invariant-loop
invariant-loop l = (vec_len l.idle ≡ l.counter) × (l.end ≤ vec_capacity l.idle)
