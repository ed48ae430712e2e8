use Rattle.mm_rules.proofs.States.Victims.{closer_is_victim}
use Rattle.mm_rules.proofs.laws.closer_is_victim.Goals as goal

pub returns : goal.returns
returns c = closer_is_victim
