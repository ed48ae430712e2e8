use Rattle.std.specs.Prelude.{Ok}
use Rattle.mm_locks.specs.Told.{IsSame}
use Rattle.mm_locks.specs.declared.history.Found.TheVariants as found
use Rattle.mm_locks.specs.declared.history.Event.TheVariants as event
use Rattle.mm_locks.proofs.Telling.{TellsOnly}
use Rattle.mm_locks.proofs.transaction.sleep.Given as goal

abbrev pub invariant-loop : goal.invariant-loop
invariant-loop g l =
    (goal.iterator-loop g).can_next l.iterator' × (goal.iterator-loop g).is_finite l.iterator'
    × IsSame l.fn.session l.session
    × TellsOnly l.fn.session (event.Looked l.fn.session.worker.at l.fn.name (Ok found.Waits)) l.session
