use Rattle.std.proofs.Common.{arith}
use Rattle.std.proofs.lemmas.Grind.{common_steps}
use Rattle.std.proofs.lemmas.List.Elements.{filter_map-append}
use Rattle.example_calls.proofs.wake.list_active.Goals as goal

pub loop-process-preserved : goal.loop-process-preserved
loop-process-preserved c = grind (arith, common_steps, filter_map-append)
