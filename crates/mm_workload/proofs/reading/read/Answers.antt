use Rattle.std.proofs.Common.{◌≡◌, arith, rules, Some}
use Rattle.serde_json.specs.View.{view}
use Rattle.serde_json.specs.Read.{read}
use Rattle.mm_workload.proofs.Lemmas.Says.{says_none, some_bytes}
use Rattle.mm_workload.proofs.reading.read.Goals as goal

pub returns-in-Ok-clause-malformed : goal.returns-in-Ok-clause-malformed
returns-in-Ok-clause-malformed c = says_none c.args.bytes.now (view c.in-Ok.value) c.work.result (search rules) c.work.ensures.malformed

pub returns-in-Ok-clause-memory : goal.returns-in-Ok-clause-memory
returns-in-Ok-clause-memory c = λ _.
    let is : read c.args.bytes.now ≡ Some (view c.in-Ok.value) = search rules in
    (some_bytes c.args.bytes.now (view c.in-Ok.value) is, omega arith)
