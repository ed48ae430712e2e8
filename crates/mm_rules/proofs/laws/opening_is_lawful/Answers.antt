use Rattle.mm_rules.proofs.States.Opening.{opening_lawful}
use Rattle.mm_rules.proofs.laws.opening_is_lawful.Goals as goal

pub returns : goal.returns
returns c = opening_lawful
