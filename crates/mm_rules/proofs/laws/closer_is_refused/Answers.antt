use Rattle.mm_rules.proofs.States.TakeBack.{closer_is_refused}
use Rattle.mm_rules.proofs.laws.closer_is_refused.Goals as goal

pub returns : goal.returns
returns c = closer_is_refused
