use Rattle.mm_rules.proofs.States.WithdrawLaws.{withdraw_lowers_none}
use Rattle.mm_rules.proofs.laws.withdraw_lowers_none.Goals as goal

pub returns : goal.returns
returns c = withdraw_lowers_none
