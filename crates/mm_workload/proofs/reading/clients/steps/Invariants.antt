use Rattle.std.proofs.Common.{◌≡◌, length, drop}
use Rattle.mm_workload.specs.Json.{step_of}
use Rattle.mm_workload.proofs.Lemmas.Items.{GoesOn}
use Rattle.mm_workload.proofs.reading.clients.steps.Given as goal

abbrev pub invariant-steps : goal.invariant-steps
invariant-steps l = record {
  on : GoesOn step_of l.made.items l.item-items (drop l.index l.item-items);
  long : length l.made.items ≡ l.index;
}
