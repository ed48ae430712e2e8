use Rattle.std.proofs.Common.{◌∙◌}
use Rattle.pashkure.proofs.Behind.{kept_desk}
use Rattle.pashkure.proofs.desk_reads.pashkure_desk_owned.Goals as goal

pub returns-clause-same : goal.returns-clause-same
returns-clause-same c = kept_desk _ _ _ c.is_open.ensures.same (c.list_owned.ensures.same ∙ c.hall.ensures.value)
