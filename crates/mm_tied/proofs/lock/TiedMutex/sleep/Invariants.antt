use Rattle.std.specs.Prelude.{◌≡◌}
use Rattle.mm_tied.specs.Mutex.{IsSamePass}
use Rattle.mm_tied.proofs.lock.TiedMutex.sleep.Given as goal

abbrev pub invariant-loop : goal.invariant-loop
invariant-loop g l =
    (goal.iterator-loop g).can_next l.iterator' × (goal.iterator-loop g).is_finite l.iterator'
    × IsSamePass l.fn.pass l.pass × (l.pass.me ≡ l.fn.pass.me)
