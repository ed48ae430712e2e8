use Rattle.std.proofs.Common.{◌≡◌, ◌+◌, ◌<◌, ℕ, Bool, List, if◌then◌else◌, length, length-set, ap, ◌∙◌, sym, subst, arith}
use Rattle.mm_lists.proofs.Lemmas.Set.{true_within}
use Rattle.mm_settle_lemmas.specs.Steps.Pass.{IsPassed}
use Rattle.mm_settle_lemmas.proofs.Lemmas.Passes.{pass_starts, pass_ends}
use Rattle.mm_settle_lemmas.proofs.Lemmas.Settling.{settling_starts, settling_then}
use Rattle.mm_settle_lemmas.proofs.Lemmas.Turns.{pass_turn}
use Rattle.mm_table.proofs.records.Records.sweep.Goals as goal
use Rattle.mm_table.proofs.records.Records.sweep.Goals.{then-turn, else-turn}

pub loop-process-init : goal.loop-process-init
loop-process-init c = record {
  way = pass_starts c.args.self.now c.args.pending.now c.args.checks.now c.requires.marked;
  settling = settling_starts c.args.self.now c.args.touched.now;
}

pub loop-process-preserved : goal.loop-process-preserved
loop-process-preserved c =
    let one : Bool → ℕ = λ b. if b then 1 else 0 in
    let more : c.if-turn.raises ≡ c.loop-process.raises + one c.turn.result =
    elim c.if-turn.branch [
      | then-turn w ↦ omega (arith, w.raises-is, ap one w.if-turn.true)
      | else-turn w ↦ omega (arith, w.raises-is, ap one w.if-turn.false)
    ] in
    record {
      way = pass_turn c.args.self.now c.loop-process.from c.loop-process.raises c.loop-process.pending c.loop-process.checks c.loop-process.self
          c.loop-process.invariant.way c.in-Some.process c.in-Some.ensures.member.0 c.take_next.new.self c.turn.result c.if-turn.raises
          c.turn.new.pending c.turn.new.checks c.turn.new.self c.in-Some.ensures.member.1 c.turn.ensures.raised more c.turn.ensures.state c.turn.ensures.sets;
      settling = settling_then c.args.self.now c.loop-process.self c.turn.new.self c.args.touched.now c.loop-process.touched c.turn.new.touched
          c.loop-process.invariant.settling c.turn.ensures.touched;
    }

pub returns-clause-passed : goal.returns-clause-passed
returns-clause-passed c =
    subst (λ (p : List Bool). IsPassed c.args.self.now c.loop-process.raises p c.loop-process.checks c.loop-process.self) (sym c.in_default.ensures.none.1)
    (pass_ends c.args.self.now c.loop-process.from c.loop-process.raises c.loop-process.pending c.loop-process.checks c.loop-process.self
    c.loop-process.invariant.way c.in_default.ensures.none.0)

pub turn-requires : goal.turn-requires
turn-requires c =
    let way = c.loop-process.invariant.way in
    let n = c.in-Some.process in
    record {
      laws = way.marked.laws;
      process = omega (arith, true_within c.loop-process.pending n c.in-Some.ensures.member.0.member, way.marked.pending_sized);
      pending = ap length c.in-Some.ensures.member.1 ∙ length-set c.loop-process.pending n _ ∙ way.marked.pending_sized;
      checks = way.marked.checks_sized;
      touched = c.loop-process.invariant.settling.sized ∙ c.requires.touched ∙ sym (ap (λ config. config.processes) way.config);
    }

pub loop-process-smaller : goal.loop-process-smaller
loop-process-smaller c =
    let way = c.loop-process.invariant.way in
    let inside : c.in-Some.process < c.args.self.now.config.processes =
    omega (
      arith,
      true_within c.loop-process.pending c.in-Some.process c.in-Some.ensures.member.0.member,
      way.marked.pending_sized,
      ap (λ config. config.processes) way.config,
    ) in
    omega (arith, c.in-Some.ensures.member.0.at_least)

pub returns-clause-touched : goal.returns-clause-touched
returns-clause-touched c = c.loop-process.invariant.settling
