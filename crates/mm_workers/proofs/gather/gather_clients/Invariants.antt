use Rattle.std.specs.Prelude.{◌≡◌, ◌+◌, ◌*◌, ◌≤◌, vec_len, vec_capacity, count_by}
use Rattle.std.specs.Vec.Iter.{into_iter_len}
use Rattle.mm_clients.specs.End.{is_aborted}
use Rattle.mm_workers.proofs.gather.gather_clients.Given as goal

abbrev pub invariant-loop-one : goal.invariant-loop-one
invariant-loop-one g l =
    (vec_len l.ends + into_iter_len l.one-iterator ≡ vec_len l.fn.ended)
    × (vec_len l.fn.ended ≤ vec_capacity l.ends)
    × ((g.S.Steps.shares l.table).parts ≡ (g.S.Steps.shares l.fn.table).parts + vec_len l.ends)
    × ((g.S.Steps.shares l.table).aborts ≡ (g.S.Steps.shares l.fn.table).aborts + count_by is_aborted l.ends.items + l.earlier.aborted)
    × (l.earlier.finished + l.earlier.aborted ≤ vec_len l.ends * 1000000)
