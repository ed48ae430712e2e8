use Rattle.mm_apart.proofs.Lemmas.Requests.{others_are_left}
use Rattle.mm_apart.proofs.others_are_left.Goals as goal

pub returns : goal.returns
returns c = others_are_left
