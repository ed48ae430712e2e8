use Rattle.mm_rules.proofs.States.Counts.{event_counts}
use Rattle.mm_rules.proofs.laws.counts_are_exact.Goals as goal

pub returns : goal.returns
returns c = event_counts
