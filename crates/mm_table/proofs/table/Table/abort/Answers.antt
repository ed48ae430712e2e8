use Rattle.mm_rules.specs.Event.{Abort}
use Rattle.mm_table.proofs.Fields.Table.{touch_keeps_table}
use Rattle.mm_table.proofs.table.Table.abort.Goals as goal

pub invariant_of-self : goal.invariant_of-self
invariant_of-self c = touch_keeps_table (Abort c.args.key) c.self.inside c.abort.new.self c.abort.result c.abort.ensures.step c.self.invariant c.abort.new.touched c.abort.ensures.touched
