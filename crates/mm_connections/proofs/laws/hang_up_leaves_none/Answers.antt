use Rattle.mm_connections.proofs.Lemmas.HangUp.{hang_up_leaves_none}
use Rattle.mm_connections.proofs.laws.hang_up_leaves_none.Goals as goal

pub returns : goal.returns
returns c = hang_up_leaves_none
