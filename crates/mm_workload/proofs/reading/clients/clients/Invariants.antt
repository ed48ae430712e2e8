use Rattle.std.proofs.Common.{◌≡◌, length, drop, map}
use Rattle.std.specs.List.{All}
use Rattle.mm_workload.specs.Work.{IsShort}
use Rattle.mm_workload.specs.Json.{steps_of}
use Rattle.mm_workload.proofs.Lemmas.Items.{GoesOn}
use Rattle.mm_workload.proofs.reading.clients.clients.Given as goal

abbrev pub invariant-clients : goal.invariant-clients
invariant-clients l = record {
  on : GoesOn steps_of (map (λ k. k.items) l.made.items) l.item-items (drop l.index l.item-items);
  long : length l.made.items ≡ l.index;
  short : All IsShort (map (λ k. k.items) l.made.items);
}
