use Rattle.std.proofs.Common.{ap, sym, subst, ◌∙◌, IsTrue, IsFalse}
use Rattle.mm_rules.specs.TableState.{TableState, is_live, wait_of, has_verdict}
use Rattle.mm_rules.specs.Change.{free_slot}
use Rattle.mm_rules.proofs.States.HandOverAll.{live_still, active_still, no_verdict_then}
use Rattle.mm_settle_lemmas.specs.Steps.Vacating.{IsVacating}
use Rattle.mm_settle_lemmas.proofs.Lemmas.Vacated.{vacating_ends}
use Rattle.mm_table.proofs.records.Records.vacate.Goals as goal

pub free_slot-requires-clause-live : goal.free_slot-requires-clause-live
free_slot-requires-clause-live c =
    subst (λ (s : TableState). IsTrue (is_live s c.args.key)) (sym c.hand_over_all.ensures.state) (live_still c.args.self.now c.args.key c.requires.laws c.requires.active c.requires.fits c.requires.live)

pub free_slot-requires-clause-active : goal.free_slot-requires-clause-active
free_slot-requires-clause-active c =
    ap (λ s. wait_of s c.args.key.process) c.hand_over_all.ensures.state ∙ active_still c.args.self.now c.args.key c.requires.laws c.requires.active c.requires.fits

pub free_slot-requires-clause-no_verdict : goal.free_slot-requires-clause-no_verdict
free_slot-requires-clause-no_verdict c =
    subst (λ (s : TableState). IsFalse (has_verdict s c.args.key.process)) (sym c.hand_over_all.ensures.state) (no_verdict_then c.args.self.now c.args.key c.requires.laws c.requires.active c.requires.fits)

pub returns-clause-state : goal.returns-clause-state
returns-clause-state c = c.free_slot.ensures ∙ ap (λ s. free_slot s c.args.key.process) c.hand_over_all.ensures.state

pub returns-clause-touched : goal.returns-clause-touched
returns-clause-touched c =
    let s = c.args.self.now in
    let n = c.args.key.process in
    let old = c.args.touched.now in
    let new = c.hand_over_all.new.touched in
    subst (λ (t : TableState). IsVacating s n t old new) (sym c.free_slot.ensures) (vacating_ends s c.hand_over_all.new.self n old new c.hand_over_all.ensures.touched)
