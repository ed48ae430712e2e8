use Rattle.pashkure.proofs.Kept.{kept}
use Rattle.pashkure.proofs.reads.pashkure_woken.Goals as goal

pub returns-clause-same : goal.returns-clause-same
returns-clause-same c = kept _ _ _ c.is_open.ensures.same c.manager.ensures.value
