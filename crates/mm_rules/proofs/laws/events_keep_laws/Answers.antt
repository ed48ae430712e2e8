use Rattle.mm_rules.proofs.States.EventsKeepLaws.{event_keeps}
use Rattle.mm_rules.proofs.laws.events_keep_laws.Goals as goal

pub returns : goal.returns
returns c = λ e old new reply step laws. (event_keeps e old new reply step laws).laws
