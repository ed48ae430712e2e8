use Rattle.mm_connections.proofs.Lemmas.Runs.{runs_are_apart}
use Rattle.mm_connections.proofs.laws.runs_are_apart.Goals as goal

pub returns : goal.returns
returns c = runs_are_apart
