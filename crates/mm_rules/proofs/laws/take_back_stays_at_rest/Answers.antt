use Rattle.mm_rules.proofs.States.TakeBack.{take_back_stays_at_rest}
use Rattle.mm_rules.proofs.laws.take_back_stays_at_rest.Goals as goal

pub returns : goal.returns
returns c = take_back_stays_at_rest
