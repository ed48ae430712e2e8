use Rattle.mm_rules.specs.Event.{Finish}
use Rattle.mm_table.proofs.Fields.Table.{touch_keeps_table}
use Rattle.mm_table.proofs.table.Table.finish.Goals as goal

pub invariant_of-self : goal.invariant_of-self
invariant_of-self c = touch_keeps_table (Finish c.args.key) c.self.inside c.finish.new.self c.finish.result c.finish.ensures.step c.self.invariant c.finish.new.touched c.finish.ensures.touched
