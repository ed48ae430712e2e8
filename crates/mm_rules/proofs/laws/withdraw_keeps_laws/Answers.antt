use Rattle.mm_rules.proofs.States.WithdrawLaws.{withdraw_keeps_laws}
use Rattle.mm_rules.proofs.laws.withdraw_keeps_laws.Goals as goal

pub returns : goal.returns
returns c = withdraw_keeps_laws
