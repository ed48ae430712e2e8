use Rattle.std.proofs.Common.{◌≡◌, subst}
use Rattle.mm_rules.specs.TableState.{TableState}
use Rattle.mm_rules.specs.Event.{Abort}
use Rattle.mm_settle_lemmas.specs.Touched.{changed_processes}
use Rattle.mm_table.proofs.Fields.Table.{listing_keeps_table, listed}
use Rattle.mm_table.proofs.table.Table.abort_waking.Goals as goal

pub invariant_of-self : goal.invariant_of-self
invariant_of-self c =
    listing_keeps_table (Abort c.args.key) c.self.inside c.abort-answer.new.self c.abort-answer.result c.abort-answer.ensures.step c.self.invariant
    c.abort-answer.new.touched c.move_all.new.to c.move_all.new.self c.abort-answer.ensures.touched c.move_all.ensures.union c.move_all.ensures.sized c.move_all.ensures.none

pub returns-clause-woken : goal.returns-clause-woken
returns-clause-woken c =
    subst (λ (s : TableState). c.move_all.new.list.items ≡ changed_processes s c.abort-answer.new.self) c.self.view_is
    (listed (Abort c.args.key) c.self.inside c.abort-answer.new.self c.abort-answer.result c.abort-answer.ensures.step c.self.invariant c.abort-answer.new.touched c.move_all.new.list.items c.abort-answer.ensures.touched c.move_all.ensures.members)
