use Rattle.mm_rules.proofs.States.WithdrawLaws.{give_up_is_withdraw}
use Rattle.mm_rules.proofs.laws.give_up_is_withdraw.Goals as goal

pub returns : goal.returns
returns c = give_up_is_withdraw
