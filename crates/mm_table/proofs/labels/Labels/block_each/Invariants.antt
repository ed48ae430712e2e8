use Rattle.std.proofs.Common.{◌≡◌, length}
use Rattle.mm_table.specs.private.Labels.{AreAtMost, labels_under, FitUnder, added_each}
use Rattle.mm_table.proofs.labels.Labels.block_each.Given as goal

-- those that are left will be blocked and added; no label is above the greatest
abbrev pub invariant-loop-process : goal.invariant-loop-process
invariant-loop-process l = record {
  labels : labels_under l.self-inside.processes.items l.shown l.process-iterator ≡ labels_under l.fn.self l.shown l.fn.waiters;
  fit : FitUnder l.self-inside.processes.items l.shown l.process-iterator;
  greatest : AreAtMost l.greatest.counter l.self-inside.processes.items;
  touched : added_each l.touched l.process-iterator ≡ added_each l.fn.touched l.fn.waiters;
  sized : length l.touched ≡ length l.self-inside.processes.items;
}
