use Rattle.mm_rules.proofs.States.EventsKeepLaws.{event_keeps}
use Rattle.mm_rules.proofs.laws.public_labels_never_fall.Goals as goal

pub returns : goal.returns
returns c = λ e old new reply step laws. (event_keeps e old new reply step laws).rise
