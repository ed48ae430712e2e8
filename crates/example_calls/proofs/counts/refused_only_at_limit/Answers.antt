use Rattle.example_calls.proofs.AtLimit.{refused_only_at_limit}
use Rattle.example_calls.proofs.counts.refused_only_at_limit.Goals as goal

pub returns : goal.returns
returns c = refused_only_at_limit
