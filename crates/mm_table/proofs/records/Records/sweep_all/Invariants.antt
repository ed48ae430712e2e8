use Rattle.std.proofs.Common.{◌-◌}
use Rattle.mm_rules.specs.Laws.{most_raises}
use Rattle.mm_rules.proofs.States.SweepLoop.{IsSweeping}
use Rattle.mm_settle_lemmas.specs.Steps.Marked.{AreMarked}
use Rattle.mm_settle_lemmas.specs.Steps.Settling.{IsSettling}
use Rattle.mm_table.proofs.records.Records.sweep_all.Given as goal

abbrev pub invariant-loop-raises : goal.invariant-loop-raises
invariant-loop-raises l = record {
  way : IsSweeping l.fn.self l.raises l.self;
  marked : AreMarked l.self l.pending l.checks;
  settling : IsSettling l.fn.self l.self l.fn.touched l.touched;
}

abbrev pub decreases-loop-raises : goal.decreases-loop-raises
decreases-loop-raises l = most_raises l.fn.self - l.raises
