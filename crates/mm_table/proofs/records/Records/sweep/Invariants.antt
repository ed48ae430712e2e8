use Rattle.std.proofs.Common.{◌-◌}
use Rattle.mm_settle_lemmas.specs.Steps.Pass.{IsPassing}
use Rattle.mm_settle_lemmas.specs.Steps.Settling.{IsSettling}
use Rattle.mm_table.proofs.records.Records.sweep.Given as goal

abbrev pub invariant-loop-process : goal.invariant-loop-process
invariant-loop-process l = record {
  way : IsPassing l.fn.self l.from l.raises l.pending l.checks l.self;
  settling : IsSettling l.fn.self l.self l.fn.touched l.touched;
}

abbrev pub decreases-loop-process : goal.decreases-loop-process
decreases-loop-process l = l.fn.self.config.processes - l.from
