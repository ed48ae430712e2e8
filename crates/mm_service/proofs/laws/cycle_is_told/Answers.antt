use Rattle.mm_service.proofs.Lemmas.Told.{cycle_is_told}
use Rattle.mm_service.proofs.laws.cycle_is_told.Goals as goal

pub returns : goal.returns
returns c = cycle_is_told
