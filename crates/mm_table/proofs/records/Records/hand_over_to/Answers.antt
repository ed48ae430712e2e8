use Rattle.std.proofs.Common.{◌≡◌, ap, sym, ◌∙◌, arith}
use Rattle.mm_rules.specs.TableState.{is_live, is_waiting}
use Rattle.mm_settle_lemmas.proofs.Lemmas.Added.{adds_set}
use Rattle.mm_table.proofs.Fields.HandOver.{added_all, HasLawfulWaits, lawful_waits, taken_over, first_within, first_lives, waiting, others_apart, others_fit, handed_over, freed_then_owned}
use Rattle.mm_table.proofs.records.Records.hand_over_to.Goals as goal

pub activate-requires-clause-live : goal.activate-requires-clause-live
activate-requires-clause-live c =
    let s = c.args.self.now in
    let lawful = lawful_waits c.self.inside s c.self.invariant c.self.view_is c.keeps_laws.ensures in
    ap (λ t. is_live t c.args.first) c.free.ensures ∙ first_lives s c.args.resource c.args.first (sym c.requires.first) lawful.once lawful

pub activate-requires-clause-waiting : goal.activate-requires-clause-waiting
activate-requires-clause-waiting c =
    let s = c.args.self.now in
    let lawful = lawful_waits c.self.inside s c.self.invariant c.self.view_is c.keeps_laws.ensures in
    ap (λ t. is_waiting t c.args.first.process) c.free.ensures ∙ waiting s c.args.resource c.args.first (sym c.requires.first) lawful.once

pub grant-requires-clause-key : goal.grant-requires-clause-key
grant-requires-clause-key c =
    let s = c.args.self.now in
    let lawful = lawful_waits c.self.inside s c.self.invariant c.self.view_is c.keeps_laws.ensures in
    omega (arith, first_within s c.args.resource c.args.first (sym c.requires.first) lawful.once lawful, ap (λ t. t.config.processes) c.free.ensures, ap (λ t. t.config.processes) c.activate.ensures)

pub add-requires : goal.add-requires
add-requires c =
    let s = c.args.self.now in
    let lawful = lawful_waits c.self.inside s c.self.invariant c.self.view_is c.keeps_laws.ensures in
    omega (arith, first_within s c.args.resource c.args.first (sym c.requires.first) lawful.once lawful, c.requires.sized)

pub block_queue-requires-clause-holder : goal.block_queue-requires-clause-holder
block_queue-requires-clause-holder c =
    let s = c.args.self.now in
    let lawful = lawful_waits c.self.inside s c.self.invariant c.self.view_is c.keeps_laws.ensures in
    omega (arith, first_within s c.args.resource c.args.first (sym c.requires.first) lawful.once lawful, ap (λ t. t.config.processes) c.free.ensures, ap (λ t. t.config.processes) c.activate.ensures, ap (λ t. t.config.processes) c.grant.ensures)

-- the first waiter has become the owner
owned : (c : goal.After-block_queue-arg-2-1) → c.grant.new.self ≡ taken_over c.args.self.now c.args.resource c.args.first
owned c = freed_then_owned c.args.self.now c.free.new.self c.activate.new.self c.grant.new.self c.args.resource c.args.first c.free.ensures c.activate.ensures c.grant.ensures

lawful : (c : goal.After-block_queue-arg-2-1) → HasLawfulWaits c.args.self.now
lawful c = lawful_waits c.self.inside c.args.self.now c.self.invariant c.self.view_is c.keeps_laws.ensures

pub block_queue-requires-clause-fits : goal.block_queue-requires-clause-fits
block_queue-requires-clause-fits c = others_fit c.args.self.now c.args.resource c.args.first (sym c.requires.first) (lawful c).once c.grant.new.self (owned c) c.requires.fits

pub block_queue-requires-clause-apart : goal.block_queue-requires-clause-apart
block_queue-requires-clause-apart c = others_apart c.args.self.now c.args.resource c.args.first (sym c.requires.first) (lawful c).once c.grant.new.self (owned c)

pub returns-clause-state : goal.returns-clause-state
returns-clause-state c =
    let b = c.before in
    c.block_queue.ensures.state ∙ handed_over c.args.self.now c.args.resource c.args.first (sym c.requires.first) (lawful b).once c.grant.new.self (owned b)

pub returns-clause-touched : goal.returns-clause-touched
returns-clause-touched c =
    let b = c.before in
    let s = c.args.self.now in
    let r = c.args.resource in
    let key = c.args.first in
    added_all s r key (sym c.requires.first) (lawful b).once c.grant.new.self (owned b) c.args.touched.now c.add.new.self c.block_queue.new.touched
    (adds_set c.args.touched.now c.add.new.self key.process (omega (arith, first_within s r key (sym c.requires.first) (lawful b).once (lawful b), c.requires.sized)) c.add.ensures) c.block_queue.ensures.touched
