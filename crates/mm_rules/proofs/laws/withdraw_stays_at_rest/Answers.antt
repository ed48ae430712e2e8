use Rattle.mm_rules.proofs.States.WithdrawLaws.{withdraw_stays_at_rest}
use Rattle.mm_rules.proofs.laws.withdraw_stays_at_rest.Goals as goal

pub returns : goal.returns
returns c = withdraw_stays_at_rest
