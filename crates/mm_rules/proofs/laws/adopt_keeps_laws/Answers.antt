use Rattle.mm_rules.proofs.States.Adopt.{adopt_keeps_laws}
use Rattle.mm_rules.proofs.laws.adopt_keeps_laws.Goals as goal

pub returns : goal.returns
returns c = adopt_keeps_laws
