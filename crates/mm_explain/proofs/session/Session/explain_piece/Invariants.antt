use Rattle.std.proofs.Common.{◌≡◌, length}
use Rattle.mm_explain.proofs.session.Session.explain_piece.Given as goal

abbrev pub invariant-loop-input : goal.invariant-loop-input
invariant-loop-input g l = l.input ≡ record l.fn.input { held = l.input.held }

abbrev pub decreases-loop-input : goal.decreases-loop-input
decreases-loop-input g l = length l.input.held
