use Rattle.mm_rules.proofs.States.Determined as determined
use Rattle.mm_rules.proofs.laws.steps_are_determined.Goals as goal

pub returns : goal.returns
returns c = determined.steps_are_determined
