use Rattle.mm_rules.specs.Event.{Release}
use Rattle.mm_table.proofs.Fields.Table.{touch_keeps_table}
use Rattle.mm_table.proofs.table.Table.release.Goals as goal

pub invariant_of-self : goal.invariant_of-self
invariant_of-self c = touch_keeps_table (Release c.args.key c.args.resource) c.self.inside c.release.new.self c.release.result c.release.ensures.step c.self.invariant c.release.new.touched c.release.ensures.touched
