use Rattle.std.proofs.Common.{◌≡◌, ◌∙◌, Ok, subst, sym}
use Rattle.mm_rules.specs.TableState.{TableState}
use Rattle.mm_rules.specs.Event.{Step, Settle}
use Rattle.mm_settle_lemmas.proofs.Lemmas.Untouched.{nothing}
use Rattle.mm_table.proofs.Fields.Table.{settled_keeps_table, still_keeps_table, answer_is}
use Rattle.mm_table.proofs.table.Table.settle.Goals as goal

pub invariant_of-self : goal.invariant_of-self
invariant_of-self c =
    settled_keeps_table Settle c.self.inside c.settle-answer.new.self c.settle-answer.result c.settle-answer.ensures.step c.self.invariant
    c.settle-answer.new.sets.changed c.settle-answer.new.sets.touched c.clear.new.self c.settle-answer.new.sets.pending c.settle-answer.new.sets.checks
    c.settle-answer.ensures.changed c.settle-answer.ensures.sized c.settle-answer.ensures.touched c.clear.ensures

pub invariant_of-self-else-ne : goal.invariant_of-self-else-ne
invariant_of-self-else-ne c =
    let still : c.settle-answer.result ≡ Ok nothing = answer_is c.settle-answer.result (sym c.ne.ensures ∙ c.if-ne.false) in
    still_keeps_table c.self.inside c.settle-answer.new.self (subst (λ answer. Step Settle c.self.inside.records answer c.settle-answer.new.self) still c.settle-answer.ensures.step) c.self.invariant
    c.settle-answer.new.sets.changed c.settle-answer.new.sets.touched c.settle-answer.new.sets.pending c.settle-answer.new.sets.checks
    c.settle-answer.ensures.changed c.settle-answer.ensures.sized c.settle-answer.ensures.touched

pub settle-answer-requires-clause-laws : goal.settle-answer-requires-clause-laws
settle-answer-requires-clause-laws c = c.self.invariant.laws

pub settle-answer-requires-clause-changed : goal.settle-answer-requires-clause-changed
settle-answer-requires-clause-changed c = c.self.invariant.changed

pub settle-answer-requires-clause-sized : goal.settle-answer-requires-clause-sized
settle-answer-requires-clause-sized c = c.self.invariant.sized

pub settle-answer-requires-clause-touched : goal.settle-answer-requires-clause-touched
settle-answer-requires-clause-touched c = c.self.invariant.touched_sized

pub returns-then-ne : goal.returns-then-ne
returns-then-ne c = subst (λ (s : TableState). Step Settle s c.settle-answer.result c.settle-answer.new.self) c.self.view_is c.settle-answer.ensures.step

pub returns-else-ne : goal.returns-else-ne
returns-else-ne c = subst (λ (s : TableState). Step Settle s c.settle-answer.result c.settle-answer.new.self) c.self.view_is c.settle-answer.ensures.step
