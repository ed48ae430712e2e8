use Rattle.std.proofs.Common.{◌≡◌, subst}
use Rattle.mm_rules.specs.TableState.{TableState}
use Rattle.mm_rules.specs.Event.{Finish}
use Rattle.mm_settle_lemmas.specs.Touched.{changed_processes}
use Rattle.mm_table.proofs.Fields.Table.{listing_keeps_table, listed}
use Rattle.mm_table.proofs.table.Table.finish_waking.Goals as goal

pub invariant_of-self : goal.invariant_of-self
invariant_of-self c =
    listing_keeps_table (Finish c.args.key) c.self.inside c.finish-answer.new.self c.finish-answer.result c.finish-answer.ensures.step c.self.invariant
    c.finish-answer.new.touched c.move_all.new.to c.move_all.new.self c.finish-answer.ensures.touched c.move_all.ensures.union c.move_all.ensures.sized c.move_all.ensures.none

pub returns-clause-woken : goal.returns-clause-woken
returns-clause-woken c =
    subst (λ (s : TableState). c.move_all.new.list.items ≡ changed_processes s c.finish-answer.new.self) c.self.view_is
    (listed (Finish c.args.key) c.self.inside c.finish-answer.new.self c.finish-answer.result c.finish-answer.ensures.step c.self.invariant c.finish-answer.new.touched c.move_all.new.list.items c.finish-answer.ensures.touched c.move_all.ensures.members)
