use Rattle.mm_rules.proofs.States.EventsKeepLaws.{reached_is_lawful}
use Rattle.mm_rules.proofs.laws.reached_is_lawful.Goals as goal

pub returns : goal.returns
returns c = reached_is_lawful
