use Rattle.mm_rules.specs.Event.{GiveUp}
use Rattle.mm_table.proofs.Fields.Table.{touch_keeps_table}
use Rattle.mm_table.proofs.table.Table.give_up.Goals as goal

pub invariant_of-self : goal.invariant_of-self
invariant_of-self c = touch_keeps_table (GiveUp c.args.key) c.self.inside c.give_up.new.self c.give_up.result c.give_up.ensures.step c.self.invariant c.give_up.new.touched c.give_up.ensures.touched
