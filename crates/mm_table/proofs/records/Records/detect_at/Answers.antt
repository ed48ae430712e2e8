use Rattle.std.proofs.Common.{arith}
use Rattle.std.proofs.lemmas.Grind.{common_steps}
use Rattle.mm_table.proofs.records.Records.detect_at.Goals as goal

pub returns-then-can-clause-touched : goal.returns-then-can-clause-touched
returns-then-can-clause-touched c = grind (arith, common_steps)
