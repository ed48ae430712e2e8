use Rattle.mm_rules.specs.Event.{Transmit}
use Rattle.mm_table.proofs.Fields.Table.{touch_keeps_table}
use Rattle.mm_table.proofs.table.Table.transmit.Goals as goal

pub invariant_of-self : goal.invariant_of-self
invariant_of-self c = touch_keeps_table (Transmit c.args.key) c.self.inside c.transmit.new.self c.transmit.result c.transmit.ensures.step c.self.invariant c.transmit.new.touched c.transmit.ensures.touched
