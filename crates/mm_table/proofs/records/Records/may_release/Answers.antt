use Rattle.std.proofs.Common.{arith}
use Rattle.std.proofs.lemmas.Grind.{common_steps}
use Rattle.mm_table.proofs.records.Records.may_release.Goals as goal

pub returns-in_err-may_use-clause-tests : goal.returns-in_err-may_use-clause-tests
returns-in_err-may_use-clause-tests c = grind (arith, common_steps)
