use Rattle.mm_rules.proofs.States.Adopt.{adopt_stays_at_rest}
use Rattle.mm_rules.proofs.laws.adopt_stays_at_rest.Goals as goal

pub returns : goal.returns
returns c = adopt_stays_at_rest
