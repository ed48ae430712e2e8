use Rattle.mm_rules.proofs.States.Rest.{rest_stays}
use Rattle.mm_rules.proofs.laws.rest_stays.Goals as goal

pub returns : goal.returns
returns c = rest_stays
