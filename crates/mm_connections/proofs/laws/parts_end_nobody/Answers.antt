use Rattle.mm_connections.proofs.Lemmas.Parts.{parts_end_nobody}
use Rattle.mm_connections.proofs.laws.parts_end_nobody.Goals as goal

pub returns : goal.returns
returns c = parts_end_nobody
