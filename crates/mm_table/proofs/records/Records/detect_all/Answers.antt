use Rattle.std.proofs.Common.{◌≡◌, ◌+◌, ◌<◌, ℕ, Bool, List, if◌then◌else◌, ap, ◌∙◌, sym, subst, arith}
use Rattle.mm_settle_lemmas.specs.Steps.Detects.{IsDetected}
use Rattle.mm_settle_lemmas.proofs.Lemmas.Checks.{detects_start, detects_turn, detects_end, check_within}
use Rattle.mm_settle_lemmas.proofs.Lemmas.Settling.{settling_starts, settling_then}
use Rattle.mm_table.proofs.records.Records.detect_all.Goals as goal
use Rattle.mm_table.proofs.records.Records.detect_all.Goals.{then-detect_at, else-detect_at}

pub loop-process-init : goal.loop-process-init
loop-process-init c = record {
  way = detects_start c.args.self.now c.args.checks.now c.requires.laws c.requires.sized c.requires.detects;
  settling = settling_starts c.args.self.now c.args.touched.now;
}

pub detect_at-requires : goal.detect_at-requires
detect_at-requires c =
    let way = c.loop-process.invariant.way in
    record {
      laws = way.laws;
      count =
          omega (
            arith,
            way.total,
            way.few,
            way.within,
            c.requires.laws.lawful.well_formed.config.processes.1,
            c.requires.count,
          );
      touched = c.loop-process.invariant.settling.sized ∙ c.requires.touched ∙ sym (ap (λ config. config.processes) way.config);
    }

pub overflow_add-from : goal.overflow_add-from
overflow_add-from c =
    omega (
      arith,
      c.requires.laws.lawful.well_formed.config.processes.1,
      check_within c.args.self.now c.loop-process.from c.loop-process.verdicts c.loop-process.checks c.loop-process.self c.loop-process.invariant.way
          c.in-Some.process c.in-Some.ensures.member.0,
    )

pub loop-process-preserved : goal.loop-process-preserved
loop-process-preserved c =
    let one : Bool → ℕ = λ b. if b then 1 else 0 in
    let more : c.if-detect_at.verdicts ≡ c.loop-process.verdicts + one c.detect_at.result =
    elim c.if-detect_at.branch [
      | then-detect_at w ↦ omega (arith, w.verdicts-is, ap one w.if-detect_at.true)
      | else-detect_at w ↦ omega (arith, w.verdicts-is, ap one w.if-detect_at.false)
    ] in
    record {
      way = detects_turn c.args.self.now c.loop-process.from c.loop-process.verdicts c.loop-process.checks c.loop-process.self c.loop-process.invariant.way
          c.in-Some.process c.in-Some.ensures.member.0 c.detect_at.result c.if-detect_at.verdicts c.take_next.new.self c.detect_at.new.self
          c.detect_at.ensures.convicted more c.in-Some.ensures.member.1 c.detect_at.ensures.state;
      settling = settling_then c.args.self.now c.loop-process.self c.detect_at.new.self c.args.touched.now c.loop-process.touched c.detect_at.new.touched
          c.loop-process.invariant.settling c.detect_at.ensures.touched;
    }

pub returns-clause-detected : goal.returns-clause-detected
returns-clause-detected c =
    subst (λ (p : List Bool). IsDetected c.args.self.now c.loop-process.verdicts p c.loop-process.self) (sym c.in_default.ensures.none.1)
    (detects_end c.args.self.now c.loop-process.from c.loop-process.verdicts c.loop-process.checks c.loop-process.self
    c.loop-process.invariant.way c.in_default.ensures.none.0)

pub loop-process-smaller : goal.loop-process-smaller
loop-process-smaller c =
    let inside : c.in-Some.process < c.args.self.now.config.processes =
    check_within c.args.self.now c.loop-process.from c.loop-process.verdicts c.loop-process.checks c.loop-process.self c.loop-process.invariant.way
    c.in-Some.process c.in-Some.ensures.member.0 in
    omega (arith, c.in-Some.ensures.member.0.at_least)

pub returns-clause-touched : goal.returns-clause-touched
returns-clause-touched c = c.loop-process.invariant.settling
