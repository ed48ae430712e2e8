use Rattle.mm_rules.proofs.States.WithdrawLaws.{withdraw_has_no_victim}
use Rattle.mm_rules.proofs.laws.withdraw_has_no_victim.Goals as goal

pub returns : goal.returns
returns c = withdraw_has_no_victim
