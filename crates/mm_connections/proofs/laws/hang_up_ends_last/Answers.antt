use Rattle.mm_connections.proofs.Lemmas.HangUp.{hang_up_ends_last}
use Rattle.mm_connections.proofs.laws.hang_up_ends_last.Goals as goal

pub returns : goal.returns
returns c = hang_up_ends_last
