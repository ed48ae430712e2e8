use Rattle.mm_rules.proofs.States.WithdrawLaws.{withdraw_counts}
use Rattle.mm_rules.proofs.laws.withdraw_counts.Goals as goal

pub returns : goal.returns
returns c = withdraw_counts
