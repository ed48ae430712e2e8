use Rattle.std.proofs.Common.{subst}
use Rattle.mm_thin.specs.Parts.{RecordState}
use Rattle.mm_thin.specs.Calls.{AreApart}
use Rattle.mm_thin.proofs.place.Place.look_at.Goals as goal

pub returns-then-other-clause-apart : goal.returns-then-other-clause-apart
returns-then-other-clause-apart c = subst (λ (x : RecordState × RecordState). AreApart x.0.1 x.1.1) (λ i. (c.self.view_is i, c.other.view_is i)) c.look_at.ensures.apart
