use Rattle.std.specs.Prelude.{◌≡◌}
use Rattle.mm_clients.proofs.client.Client.meet.Given as goal

abbrev pub invariant-loop-left : goal.invariant-loop-left
invariant-loop-left g l = l.self-inside.table ≡ l.fn.self
