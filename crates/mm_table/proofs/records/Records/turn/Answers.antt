use Rattle.std.proofs.Common.{◌<◌, refl, sym, ap, subst, ◌∙◌, arith}
use Rattle.mm_rules.specs.TableState.{TableState}
use Rattle.mm_settle_lemmas.specs.Steps.Pass.{IsTurn}
use Rattle.mm_settle_lemmas.specs.Steps.Settling.{IsSettling}
use Rattle.mm_settle_lemmas.proofs.Lemmas.Added.{adds_set}
use Rattle.mm_settle_lemmas.proofs.Lemmas.Frames.{cannot_still, transmit_config}
use Rattle.mm_settle_lemmas.proofs.Lemmas.Settling.{settling_starts, settling_transmit}
use Rattle.mm_table.proofs.records.Records.turn.Goals as goal

pub returns-then-raised-clause-touched : goal.returns-then-raised-clause-touched
returns-then-raised-clause-touched c =
    let s = c.args.self.now in
    let n = c.args.process in
    subst (λ (t : TableState). IsSettling s t c.args.touched.now c.add.new.self) (sym c.transmit_at-raised.ensures.state)
    (settling_transmit s n c.args.touched.now c.add.new.self c.requires.laws (sym c.transmit_at-raised.ensures.raised ∙ c.if-raised.true)
    (adds_set c.args.touched.now c.add.new.self n (omega (arith, c.requires.touched, c.requires.process)) c.add.ensures))

pub returns-then-raised-clause-raised : goal.returns-then-raised-clause-raised
returns-then-raised-clause-raised c = c.transmit_at-raised.ensures.raised

pub returns-then-raised-clause-state : goal.returns-then-raised-clause-state
returns-then-raised-clause-state c = c.transmit_at-raised.ensures.state

pub returns-else-raised-clause-raised : goal.returns-else-raised-clause-raised
returns-else-raised-clause-raised c = c.transmit_at-raised.ensures.raised

pub returns-else-raised-clause-state : goal.returns-else-raised-clause-state
returns-else-raised-clause-state c = c.transmit_at-raised.ensures.state

pub add_waiters-requires-clause-holder : goal.add_waiters-requires-clause-holder
add_waiters-requires-clause-holder c =
    let same = ap (λ (t : TableState). t.config.processes) c.transmit_at-raised.ensures.state ∙ ap (λ f. f.processes) (transmit_config c.args.self.now c.args.process) in
    subst (λ n. c.args.process < n) (sym same) c.requires.process

pub add_waiters-requires-clause-sized : goal.add_waiters-requires-clause-sized
add_waiters-requires-clause-sized c =
    let same = ap (λ (t : TableState). t.config.processes) c.transmit_at-raised.ensures.state ∙ ap (λ f. f.processes) (transmit_config c.args.self.now c.args.process) in
    c.requires.pending ∙ sym same

pub returns-else-raised-clause-sets : goal.returns-else-raised-clause-sets
returns-else-raised-clause-sets c =
    subst (λ b. IsTurn c.args.self.now c.args.process b c.args.pending.now c.args.checks.now c.args.pending.now c.add-else-raised.new.self) (sym c.if-raised.false) (refl, c.add-else-raised.ensures)

pub returns-else-raised-clause-touched : goal.returns-else-raised-clause-touched
returns-else-raised-clause-touched c =
    let s = c.args.self.now in
    let still = cannot_still s c.args.process (sym c.transmit_at-raised.ensures.raised ∙ c.if-raised.false) in
    subst (λ (t : TableState). IsSettling s t c.args.touched.now c.args.touched.now) (sym (c.transmit_at-raised.ensures.state ∙ still)) (settling_starts s c.args.touched.now)
