use Rattle.std.proofs.Common.{◌≡◌, ◌≤◌, vec_capacity, ap, sym, subst, ◌∙◌}
use Rattle.mm_rules.specs.TableState.{TableState}
use Rattle.mm_rules.specs.Event.{Step, Settle}
use Rattle.mm_settle_lemmas.specs.Touched.{changed_processes}
use Rattle.mm_table.proofs.Fields.Table.{settled_keeps_table, listed}
use Rattle.mm_table.proofs.table.Table.settle_waking.Goals as goal

pub invariant_of-self : goal.invariant_of-self
invariant_of-self c =
    settled_keeps_table Settle c.self.inside c.settle-answer.new.self c.settle-answer.result c.settle-answer.ensures.step c.self.invariant
    c.settle-answer.new.sets.changed c.settle-answer.new.sets.touched c.take_all.new.self c.settle-answer.new.sets.pending c.settle-answer.new.sets.checks
    c.settle-answer.ensures.changed c.settle-answer.ensures.sized c.settle-answer.ensures.touched c.take_all.ensures.none

pub returns-clause-woken : goal.returns-clause-woken
returns-clause-woken c =
    subst (λ (s : TableState). c.take_all.new.list.items ≡ changed_processes s c.settle-answer.new.self) c.self.view_is
    (listed Settle c.self.inside c.settle-answer.new.self c.settle-answer.result c.settle-answer.ensures.step c.self.invariant c.settle-answer.new.sets.touched c.take_all.new.list.items c.settle-answer.ensures.touched c.take_all.ensures.members)

pub settle-answer-requires-clause-laws : goal.settle-answer-requires-clause-laws
settle-answer-requires-clause-laws c = c.self.invariant.laws

pub settle-answer-requires-clause-changed : goal.settle-answer-requires-clause-changed
settle-answer-requires-clause-changed c = c.self.invariant.changed

pub settle-answer-requires-clause-sized : goal.settle-answer-requires-clause-sized
settle-answer-requires-clause-sized c = c.self.invariant.sized

pub settle-answer-requires-clause-touched : goal.settle-answer-requires-clause-touched
settle-answer-requires-clause-touched c = c.self.invariant.touched_sized

pub take_all-requires : goal.take_all-requires
take_all-requires c =
    let sized = c.settle-answer.ensures.touched.sized ∙ c.self.invariant.touched_sized ∙ ap (λ (s : TableState). s.config.processes) c.self.view_is in
    record { room = subst (λ n. n ≤ vec_capacity c.args.wake.now) (sym sized) c.requires.room }

pub returns-clause-step : goal.returns-clause-step
returns-clause-step c = subst (λ (s : TableState). Step Settle s c.settle-answer.result c.settle-answer.new.self) c.self.view_is c.settle-answer.ensures.step

pub returns-clause-room : goal.returns-clause-room
returns-clause-room c = c.take_all.ensures.room
