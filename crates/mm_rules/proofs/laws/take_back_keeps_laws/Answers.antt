use Rattle.mm_rules.proofs.States.TakeBack.{take_back_keeps_laws}
use Rattle.mm_rules.proofs.laws.take_back_keeps_laws.Goals as goal

pub returns : goal.returns
returns c = take_back_keeps_laws
