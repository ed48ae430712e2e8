use Rattle.example_calls.proofs.AtLimit.{refused_at_limit}
use Rattle.example_calls.proofs.counts.refused_at_limit.Goals as goal

pub returns : goal.returns
returns c = refused_at_limit
