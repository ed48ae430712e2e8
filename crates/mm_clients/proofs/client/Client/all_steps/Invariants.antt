use Rattle.std.specs.Prelude.{◌≡◌}
use Rattle.mm_clients.proofs.client.Client.all_steps.Given as goal

abbrev pub invariant-loop-place : goal.invariant-loop-place
invariant-loop-place g l = ((g.S.Steps.shares l.self).aborts ≡ (g.S.Steps.shares l.fn.self).aborts) × ((g.S.Steps.shares l.self).parts ≡ (g.S.Steps.shares l.fn.self).parts)
