use Rattle.std.proofs.Common.{◌≡◌, ◌++◌}
use Rattle.mm_table.proofs.Fields.Walk.{queued}
use Rattle.mm_table.proofs.Fields.Adding.{AddsEach}
use Rattle.mm_table.proofs.records.Records.add_queue.Given as goal

-- those that were passed were added
abbrev pub invariant-loop-process : goal.invariant-loop-process
invariant-loop-process l = record {
  walked : queued l.self l.resource ≡ l.yielded ++ l.process-iterator;
  added : AddsEach l.yielded l.fn.set l.set;
}
