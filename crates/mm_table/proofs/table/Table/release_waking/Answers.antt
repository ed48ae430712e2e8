use Rattle.std.proofs.Common.{◌≡◌, subst}
use Rattle.mm_rules.specs.TableState.{TableState}
use Rattle.mm_rules.specs.Event.{Release}
use Rattle.mm_settle_lemmas.specs.Touched.{changed_processes}
use Rattle.mm_table.proofs.Fields.Table.{listing_keeps_table, listed}
use Rattle.mm_table.proofs.table.Table.release_waking.Goals as goal

pub invariant_of-self : goal.invariant_of-self
invariant_of-self c =
    listing_keeps_table (Release c.args.key c.args.resource) c.self.inside c.release-answer.new.self c.release-answer.result c.release-answer.ensures.step c.self.invariant
    c.release-answer.new.touched c.move_all.new.to c.move_all.new.self c.release-answer.ensures.touched c.move_all.ensures.union c.move_all.ensures.sized c.move_all.ensures.none

pub returns-clause-woken : goal.returns-clause-woken
returns-clause-woken c =
    subst (λ (s : TableState). c.move_all.new.list.items ≡ changed_processes s c.release-answer.new.self) c.self.view_is
    (listed (Release c.args.key c.args.resource) c.self.inside c.release-answer.new.self c.release-answer.result c.release-answer.ensures.step c.self.invariant c.release-answer.new.touched c.move_all.new.list.items c.release-answer.ensures.touched c.move_all.ensures.members)
