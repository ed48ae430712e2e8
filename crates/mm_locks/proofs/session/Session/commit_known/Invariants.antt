use Rattle.std.specs.Prelude.{None}
use Rattle.mm_locks.specs.Told.{IsSame}
use Rattle.mm_locks.specs.declared.history.Event.TheVariants as event
use Rattle.mm_locks.proofs.Telling.{TellsOnly}
use Rattle.mm_locks.proofs.session.Session.commit_known.Given as goal

abbrev pub invariant-loop : goal.invariant-loop
invariant-loop g l =
    (goal.iterator-loop g).can_next l.iterator' × (goal.iterator-loop g).is_finite l.iterator'
    × IsSame l.fn.self l.self
    × TellsOnly l.fn.self (event.Ended l.fn.self.worker.at None) l.self
