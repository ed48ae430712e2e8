use Rattle.mm_rules.proofs.States.Victims.{victim_is_newest}
use Rattle.mm_rules.proofs.laws.victim_is_newest.Goals as goal

pub returns : goal.returns
returns c = victim_is_newest
