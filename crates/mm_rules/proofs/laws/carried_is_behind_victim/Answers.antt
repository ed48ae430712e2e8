use Rattle.mm_rules.proofs.States.WithdrawLaws.{carried_is_behind_victim}
use Rattle.mm_rules.proofs.laws.carried_is_behind_victim.Goals as goal

pub returns : goal.returns
returns c = carried_is_behind_victim
