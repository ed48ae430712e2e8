use Rattle.mm_rules.proofs.States.Rest.{opening_at_rest}
use Rattle.mm_rules.proofs.laws.opening_is_at_rest.Goals as goal

pub returns : goal.returns
returns c = opening_at_rest
