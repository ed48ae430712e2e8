use Rattle.std.specs.Prelude.{◌≡◌}
use Rattle.mm_tied.specs.Mutex.{IsSamePass}
use Rattle.mm_tied.proofs.lock.TiedMutex.contended_by_clock.Given as goal

abbrev pub invariant-loop : goal.invariant-loop
invariant-loop g l = IsSamePass l.fn.pass l.pass × (l.pass.me ≡ l.fn.pass.me)
