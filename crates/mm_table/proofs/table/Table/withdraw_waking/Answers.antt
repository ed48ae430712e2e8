use Rattle.std.proofs.Common.{◌≡◌, sym, subst}
use Rattle.mm_rules.specs.TableState.{TableState}
use Rattle.mm_rules.specs.Laws.{AtRest}
use Rattle.mm_settle_lemmas.specs.Touched.{changed_processes}
use Rattle.mm_table.proofs.Fields.Table.{are_listed}
use Rattle.mm_table.proofs.Fields.Withdraw.{withdraw_lists_table}
use Rattle.mm_table.proofs.table.Table.withdraw_waking.Goals as goal

pub invariant_of-self : goal.invariant_of-self
invariant_of-self c =
    let done = c.withdraw-answer in
    withdraw_lists_table c.args.key c.self.inside done.new.self done.result done.ensures.step (subst (λ (s : TableState). AtRest s) (sym c.self.view_is) c.requires.rest) c.self.invariant
    done.new.touched c.move_all.new.to c.move_all.new.self done.ensures.touched c.move_all.ensures.union c.move_all.ensures.sized c.move_all.ensures.none

pub returns-clause-woken : goal.returns-clause-woken
returns-clause-woken c =
    subst (λ (s : TableState). c.move_all.new.list.items ≡ changed_processes s c.withdraw-answer.new.self) c.self.view_is
    (are_listed c.self.inside c.withdraw-answer.new.self c.self.invariant c.withdraw-answer.new.touched c.move_all.new.list.items c.withdraw-answer.ensures.touched c.move_all.ensures.members)
