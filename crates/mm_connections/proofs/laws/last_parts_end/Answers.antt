use Rattle.mm_connections.proofs.Lemmas.Parts.{last_parts_end}
use Rattle.mm_connections.proofs.laws.last_parts_end.Goals as goal

pub returns : goal.returns
returns c = last_parts_end
