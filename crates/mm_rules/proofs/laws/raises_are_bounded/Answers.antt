use Rattle.mm_rules.proofs.States.RaiseBound.{raises_told_bound}
use Rattle.mm_rules.proofs.laws.raises_are_bounded.Goals as goal

pub returns : goal.returns
returns c = raises_told_bound
