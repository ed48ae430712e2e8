use Rattle.example_calls.proofs.AtLimit.{settle_passes_limit}
use Rattle.example_calls.proofs.counts.settle_passes_limit.Goals as goal

pub returns : goal.returns
returns c = settle_passes_limit
