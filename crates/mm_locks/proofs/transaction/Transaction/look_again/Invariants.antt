use Rattle.mm_locks.specs.Told.{IsSame, TellsNothing}
use Rattle.mm_locks.proofs.transaction.Transaction.look_again.Given as goal

abbrev pub invariant-loop : goal.invariant-loop
invariant-loop g l = IsSame l.fn.self.session.now l.session × TellsNothing l.fn.self.session.now l.session
