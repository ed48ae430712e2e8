use Rattle.example_calls.proofs.AtLimit.{last_event_is_counted}
use Rattle.example_calls.proofs.counts.last_event_is_counted.Goals as goal

pub returns : goal.returns
returns c = last_event_is_counted
