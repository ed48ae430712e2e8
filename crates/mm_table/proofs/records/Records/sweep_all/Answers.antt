use Rattle.std.proofs.Common.{refl, ap, arith}
use Rattle.mm_rules.proofs.States.SweepLoop.{sweeping_config, ends, fits, falls, goes_on}
use Rattle.mm_settle_lemmas.proofs.Lemmas.Settling.{settling_starts, settling_then}
use Rattle.mm_table.proofs.records.Records.sweep_all.Goals as goal

pub loop-raises-init : goal.loop-raises-init
loop-raises-init c = record {
  way = record { sweeps = 0; before = λ m below. absurd (omega arith); raised = refl; state = refl };
  marked = c.requires.marked;
  settling = settling_starts c.args.self.now c.args.touched.now;
}

pub sweep-more-requires-clause-touched : goal.sweep-more-requires-clause-touched
sweep-more-requires-clause-touched c =
    omega (arith, c.loop-raises.invariant.settling.sized, c.requires.touched, ap (λ k. k.processes) (sweeping_config c.args.self.now c.loop-raises.raises c.loop-raises.self c.loop-raises.invariant.way))

pub returns-then-more-eq0-clause-swept : goal.returns-then-more-eq0-clause-swept
returns-then-more-eq0-clause-swept c =
    ends c.args.self.now c.loop-raises.raises c.loop-raises.self c.sweep-more.result c.sweep-more.new.self
    c.requires.marked.laws c.loop-raises.invariant.way c.sweep-more.ensures.passed.raised c.sweep-more.ensures.passed.state c.if-more-eq0.true

pub returns-then-more-eq0-clause-touched : goal.returns-then-more-eq0-clause-touched
returns-then-more-eq0-clause-touched c =
    settling_then c.args.self.now c.loop-raises.self c.sweep-more.new.self c.args.touched.now c.loop-raises.touched c.sweep-more.new.touched
    c.loop-raises.invariant.settling c.sweep-more.ensures.touched

pub overflow_add-raises : goal.overflow_add-raises
overflow_add-raises c =
    let few = fits c.args.self.now c.loop-raises.raises c.loop-raises.self c.sweep-more.result c.sweep-more.new.self
    c.requires.marked.laws c.loop-raises.invariant.way c.sweep-more.ensures.passed.raised c.sweep-more.ensures.passed.state in
    omega arith

pub loop-raises-smaller : goal.loop-raises-smaller
loop-raises-smaller c =
    falls c.args.self.now c.loop-raises.raises c.loop-raises.self c.sweep-more.result c.sweep-more.new.self
    c.requires.marked.laws c.loop-raises.invariant.way c.sweep-more.ensures.passed.raised c.sweep-more.ensures.passed.state (omega arith)

pub loop-raises-preserved : goal.loop-raises-preserved
loop-raises-preserved c = record {
  way = goes_on c.args.self.now c.loop-raises.raises c.loop-raises.self c.sweep-more.result c.sweep-more.new.self
      c.requires.marked.laws c.loop-raises.invariant.way c.sweep-more.ensures.passed.raised c.sweep-more.ensures.passed.state (omega arith);
  marked = c.sweep-more.ensures.passed.marked;
  settling = settling_then c.args.self.now c.loop-raises.self c.sweep-more.new.self c.args.touched.now c.loop-raises.touched c.sweep-more.new.touched
      c.loop-raises.invariant.settling c.sweep-more.ensures.touched;
}
