use Rattle.mm_thin.specs.Calls.{GivesBackFrom}
use Rattle.mm_thin.proofs.worker.Worker.leave_all.Given as goal

-- the places from this one on have given back what they had, or are left
abbrev pub invariant-loop-k : goal.invariant-loop-k
invariant-loop-k l = GivesBackFrom l.fn.self l.k l.is_left l.self

abbrev pub decreases-loop-k : goal.decreases-loop-k
decreases-loop-k l = l.k
