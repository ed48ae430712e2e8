use Rattle.std.proofs.Common.{◌-◌, ◌≤◌, ◌≡◌, length}
use Rattle.mm_settle_lemmas.specs.Steps.Changed.{IsLoading}
use Rattle.mm_table.proofs.records.Records.load.Given as goal

abbrev pub invariant-loop-process : goal.invariant-loop-process
invariant-loop-process l = record {
  way : IsLoading l.self l.from l.changed l.pending;
  changed_sized : length l.changed ≡ l.self.config.processes;
  pending_sized : length l.pending ≡ l.self.config.processes;
  first : l.from ≡ 0 → l.changed ≡ l.fn.changed;
  within : l.from ≤ l.self.config.processes;
}

abbrev pub decreases-loop-process : goal.decreases-loop-process
decreases-loop-process l = l.self.config.processes - l.from
