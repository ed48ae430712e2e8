use Rattle.std.proofs.Common.{◌≡◌}
use Rattle.example_two_threads.proofs.transaction.take.Given as goal

abbrev pub invariant-loop : goal.invariant-loop
invariant-loop g l = (l.pass.aborts ≡ l.fn.pass.aborts) × (l.pass.parts ≡ l.fn.pass.parts)
