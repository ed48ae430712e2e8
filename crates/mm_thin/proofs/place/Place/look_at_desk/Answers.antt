use Rattle.std.proofs.Common.{subst}
use Rattle.mm_thin.specs.Parts.{RecordState}
use Rattle.mm_thin.specs.Calls.{AreLent}
use Rattle.mm_thin.proofs.place.Place.look_at_desk.Goals as goal

pub returns-clause-lent : goal.returns-clause-lent
returns-clause-lent c = subst (λ (x : RecordState). AreLent x.1 c.args.desk.now.1) c.self.view_is c.look_at_desk.ensures.lent
