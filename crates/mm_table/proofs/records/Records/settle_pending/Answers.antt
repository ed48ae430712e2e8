use Rattle.std.proofs.Common.{◌+◌, ap, sym, subst, ◌∙◌, arith}
use Rattle.mm_rules.specs.Change.{can_transmit, can_detect}
use Rattle.mm_rules.specs.TableState.{TableState, waiting_processes}
use Rattle.mm_rules.proofs.States.Outcome.{counting}
use Rattle.mm_rules.proofs.States.SettleStep.{below_limit, settle_gives}
use Rattle.mm_rules.proofs.States.SweepLoop.{swept_config}
use Rattle.mm_rules.proofs.States.Totals.{sweeps_totals, detects_accepted}
use Rattle.mm_settle_lemmas.specs.Touched.{Touches}
use Rattle.mm_settle_lemmas.proofs.Lemmas.Checks.{detects_transmit}
use Rattle.mm_settle_lemmas.proofs.Lemmas.Settling.{settling_then, settling_touches}
use Rattle.mm_settle_lemmas.proofs.Lemmas.Told.{touches_counted}
use Rattle.mm_table.proofs.records.Records.settle_pending.Goals as goal

pub detect_all-verdicts-requires-clause-count : goal.detect_all-verdicts-requires-clause-count
detect_all-verdicts-requires-clause-count c =
    let s = c.args.self.now in
    let same = ap (λ t. t.verdicts) (sweeps_totals s c.sweep_all-raises.result c.sweep_all-raises.new.self c.sweep_all-raises.ensures.swept) in
    let below = below_limit s c.requires.counts in
    omega arith

pub detect_all-verdicts-requires-clause-detects : goal.detect_all-verdicts-requires-clause-detects
detect_all-verdicts-requires-clause-detects c = λ k out. c.sweep_all-raises.ensures.marked.detects k (c.sweep_all-raises.ensures.none k) out

pub detect_all-verdicts-requires-clause-touched : goal.detect_all-verdicts-requires-clause-touched
detect_all-verdicts-requires-clause-touched c =
    omega (
      arith,
      c.sweep_all-raises.ensures.touched.sized,
      c.requires.touched,
      ap (λ t. t.processes) (swept_config c.args.self.now c.sweep_all-raises.result c.sweep_all-raises.new.self c.sweep_all-raises.ensures.swept),
    )

pub count-requires : goal.count-requires
count-requires c =
    let s = c.args.self.now in
    let mid = c.sweep_all-raises.new.self in
    let same = ap (λ t. t.accepted) (sweeps_totals s c.sweep_all-raises.result mid c.sweep_all-raises.ensures.swept) in
    let below = below_limit s c.requires.counts in
    let rested = ap (λ t. t.totals.accepted) c.detect_all-verdicts.ensures.detected.state in
    omega (arith, detects_accepted mid (waiting_processes mid))

pub returns-clause-step : goal.returns-clause-step
returns-clause-step c =
    let s = c.args.self.now in
    let mid = c.sweep_all-raises.new.self in
    settle_gives s mid c.count.new.self c.sweep_all-raises.result c.detect_all-verdicts.result c.requires.counts c.sweep_all-raises.ensures.swept
    c.detect_all-verdicts.ensures.detected.counted
    (c.count.ensures ∙ ap (λ t. counting t (t.totals.accepted + 1)) c.detect_all-verdicts.ensures.detected.state)

pub returns-clause-quiet : goal.returns-clause-quiet
returns-clause-quiet c =
    let mid = c.sweep_all-raises.new.self in
    let marked = c.sweep_all-raises.ensures.marked in
    record {
      transmits = λ k. ap (λ t. can_transmit t k) c.count.ensures ∙ ap (λ t. can_transmit t k) c.detect_all-verdicts.ensures.detected.state
          ∙ detects_transmit mid (waiting_processes mid) k ∙ marked.transmits k (c.sweep_all-raises.ensures.none k);
      detects = λ k. ap (λ t. can_detect t k) c.count.ensures ∙ c.detect_all-verdicts.ensures.detected.done k;
    }

pub returns-clause-pending : goal.returns-clause-pending
returns-clause-pending c =
    let config = ap (λ t. t.processes) (swept_config c.args.self.now c.sweep_all-raises.result c.sweep_all-raises.new.self c.sweep_all-raises.ensures.swept) in
    c.sweep_all-raises.ensures.marked.pending_sized ∙ config ∙ sym c.requires.marked.pending_sized

pub returns-clause-checks : goal.returns-clause-checks
returns-clause-checks c =
    let config = ap (λ t. t.processes) (swept_config c.args.self.now c.sweep_all-raises.result c.sweep_all-raises.new.self c.sweep_all-raises.ensures.swept) in
    c.detect_all-verdicts.ensures.detected.sized ∙ config ∙ sym c.requires.marked.checks_sized

pub returns-clause-touched : goal.returns-clause-touched
returns-clause-touched c =
    let s = c.args.self.now in
    let mid = c.sweep_all-raises.new.self in
    let t = c.detect_all-verdicts.new.self in
    let old = c.args.touched.now in
    let swept = c.sweep_all-raises.new.touched in
    let new = c.detect_all-verdicts.new.touched in
    subst (λ (u : TableState). Touches s u old new) (sym c.count.ensures)
    (touches_counted s t old new _ (settling_touches s t old new (settling_then s mid t old swept new c.sweep_all-raises.ensures.touched c.detect_all-verdicts.ensures.touched)))
