use Rattle.mm_rules.proofs.States.LawsAreNotEmpty.{laws_are_not_empty}
use Rattle.mm_rules.proofs.laws.laws_are_not_empty.Goals as goal

pub returns : goal.returns
returns c = laws_are_not_empty
