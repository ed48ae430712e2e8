use Rattle.std.proofs.Common.{ap, sym, ◌∙◌, Ok}
use Rattle.mm_rules.specs.Change.{can_transmit, can_detect}
use Rattle.mm_rules.specs.Event.{Settle}
use Rattle.mm_rules.proofs.States.Config.{event_config}
use Rattle.mm_settle_lemmas.proofs.Lemmas.Changed.{none_changed}
use Rattle.mm_settle_lemmas.proofs.Lemmas.Quiet.{quiet_settles, quiet_touches}
use Rattle.mm_table.proofs.records.Records.settle.Goals as goal

pub returns-then-load-clause-changed : goal.returns-then-load-clause-changed
returns-then-load-clause-changed c = none_changed c.settle_pending.new.self c.load.new.changed c.settle_pending.ensures.quiet.transmits c.settle_pending.ensures.quiet.detects

pub returns-then-load-clause-sized : goal.returns-then-load-clause-sized
returns-then-load-clause-sized c =
    let config = sym (ap (λ t. t.processes) (event_config Settle c.args.self.now c.settle_pending.new.self (Ok c.settle_pending.result) c.settle_pending.ensures.step)) in
    record {
      changed_sized = c.load.ensures.changed_sized ∙ c.requires.sized.changed_sized ∙ config;
      pending_sized = c.settle_pending.ensures.pending ∙ (c.load.ensures.marked c.args.sets.now.checks c.requires.sized.checks_sized).pending_sized ∙ config;
      checks_sized = c.settle_pending.ensures.checks ∙ c.requires.sized.checks_sized ∙ config;
    }

pub returns-clause-step : goal.returns-clause-step
returns-clause-step c =
    quiet_settles c.args.self.now c.requires.laws (c.load.ensures.quiet c.if-load.false) c.count.new.self c.count.ensures (sym c.counts_exhausted.ensures ∙ c.if-counts_exhausted.false)

pub returns-clause-changed : goal.returns-clause-changed
returns-clause-changed c =
    let quiet = c.load.ensures.quiet c.if-load.false in
    none_changed c.count.new.self c.load.new.changed (λ k. ap (λ t. can_transmit t k) c.count.ensures ∙ quiet.transmits k) (λ k. ap (λ t. can_detect t k) c.count.ensures ∙ quiet.detects k)

pub returns-clause-sized : goal.returns-clause-sized
returns-clause-sized c =
    let config = sym (ap (λ t. t.config.processes) c.count.ensures) in
    record {
      changed_sized = c.load.ensures.changed_sized ∙ c.requires.sized.changed_sized ∙ config;
      pending_sized = (c.load.ensures.marked c.args.sets.now.checks c.requires.sized.checks_sized).pending_sized ∙ config;
      checks_sized = c.requires.sized.checks_sized ∙ config;
    }

pub returns-clause-touched : goal.returns-clause-touched
returns-clause-touched c =
    quiet_touches c.args.self.now c.requires.laws (c.load.ensures.quiet c.if-load.false) c.count.new.self c.count.ensures c.args.sets.now.touched
