use Rattle.mm_rules.proofs.States.WithdrawLaws.{no_victim_no_carried}
use Rattle.mm_rules.proofs.laws.no_victim_no_carried.Goals as goal

pub returns : goal.returns
returns c = no_victim_no_carried
