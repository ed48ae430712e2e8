use Rattle.std.specs.Prelude.{◌≡◌}
use Rattle.mm_clients.proofs.client.Client.begin.Given as goal

abbrev pub invariant-loop-left : goal.invariant-loop-left
invariant-loop-left g l = ((g.S.Steps.shares l.self-inside.table).aborts ≡ (g.S.Steps.shares l.fn.self).aborts) × ((g.S.Steps.shares l.self-inside.table).parts ≡ (g.S.Steps.shares l.fn.self).parts)
