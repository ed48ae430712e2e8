use Rattle.mm_connections.proofs.Lemmas.Apart.{lines_are_apart}
use Rattle.mm_connections.proofs.laws.lines_are_apart.Goals as goal

pub returns : goal.returns
returns c = lines_are_apart
