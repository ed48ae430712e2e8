use Rattle.mm_rules.proofs.States.Victims.{newest_closer_is_victim}
use Rattle.mm_rules.proofs.laws.newest_closer_is_victim.Goals as goal

pub returns : goal.returns
returns c = newest_closer_is_victim
