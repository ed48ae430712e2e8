use Rattle.mm_rules.proofs.States.Settle.{settle_gives_rest}
use Rattle.mm_rules.proofs.laws.settle_gives_rest.Goals as goal

pub returns : goal.returns
returns c = settle_gives_rest
