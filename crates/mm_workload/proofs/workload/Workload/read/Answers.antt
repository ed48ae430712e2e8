use Rattle.mm_workload.proofs.Lemmas.Says.{says_no_other}
use Rattle.mm_workload.proofs.workload.Workload.read.Goals as goal

pub returns-clause-only : goal.returns-clause-only
returns-clause-only c = says_no_other c.args.bytes.now c.read.result c.read.ensures.ok
