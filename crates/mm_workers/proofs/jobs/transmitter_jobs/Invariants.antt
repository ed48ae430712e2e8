use Rattle.std.specs.Prelude.{◌≡◌, ◌+◌, ◌≤◌, vec_len, vec_capacity}
use Rattle.std.specs.Vec.Iter.{into_iter_len}
use Rattle.mm_workers.proofs.jobs.transmitter_jobs.Given as goal

abbrev pub invariant-loop-gate : goal.invariant-loop-gate
invariant-loop-gate g l =
    (goal.iterator-loop-gate g).can_next l.gate-iterator
    × (goal.iterator-loop-gate g).is_finite l.gate-iterator
    × (vec_len l.jobs + into_iter_len l.gate-iterator ≡ vec_len l.fn.gates)
    × ((g.S.Steps.shares l.table).parts + vec_len l.jobs ≡ (g.S.Steps.shares l.fn.table).parts)
    × ((g.S.Steps.shares l.table).aborts ≡ (g.S.Steps.shares l.fn.table).aborts)
    × (vec_len l.fn.gates ≤ vec_capacity l.jobs)
