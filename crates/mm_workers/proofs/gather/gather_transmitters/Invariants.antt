use Rattle.std.specs.Prelude.{◌≡◌, ◌+◌, vec_len}
use Rattle.std.specs.Vec.Iter.{into_iter_len}
use Rattle.mm_workers.proofs.gather.gather_transmitters.Given as goal

abbrev pub invariant-loop-one : goal.invariant-loop-one
invariant-loop-one g l =
    ((g.S.Steps.shares l.table).parts + into_iter_len l.one-iterator ≡ (g.S.Steps.shares l.fn.table).parts + vec_len l.fn.stopped)
    × ((g.S.Steps.shares l.table).aborts ≡ (g.S.Steps.shares l.fn.table).aborts)
