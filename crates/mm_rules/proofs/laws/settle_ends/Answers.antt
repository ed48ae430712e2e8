use Rattle.mm_rules.proofs.States.Sweep.{settles_after}
use Rattle.mm_rules.proofs.laws.settle_ends.Goals as goal

pub returns : goal.returns
returns c = settles_after
