use Rattle.mm_rules.proofs.States.TakeBack.{rest_has_no_cycle}
use Rattle.mm_rules.proofs.laws.rest_has_no_cycle.Goals as goal

pub returns : goal.returns
returns c = rest_has_no_cycle
