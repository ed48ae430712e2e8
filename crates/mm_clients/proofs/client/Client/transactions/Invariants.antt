use Rattle.std.specs.Prelude.{◌≡◌, ◌+◌}
use Rattle.mm_clients.specs.End.{aborts_of}
use Rattle.mm_clients.proofs.client.Client.transactions.Given as goal

abbrev pub invariant-loop-more : goal.invariant-loop-more
invariant-loop-more g l =
    ((g.S.Steps.shares l.self).aborts ≡ (g.S.Steps.shares l.fn.self).aborts + l.earlier.aborted + aborts_of l.last)
    × ((g.S.Steps.shares l.self).parts ≡ (g.S.Steps.shares l.fn.self).parts)
    × (l.earlier.finished + l.earlier.aborted ≡ l._more)
