use Rattle.mm_rules.proofs.States.NoVictim.{others_have_no_victim}
use Rattle.mm_rules.proofs.laws.others_have_no_victim.Goals as goal

pub returns : goal.returns
returns c = others_have_no_victim
