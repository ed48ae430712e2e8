use Rattle.mm_rules.specs.Event.{Acquire}
use Rattle.mm_table.proofs.Fields.Table.{touch_keeps_table}
use Rattle.mm_table.proofs.table.Table.acquire.Goals as goal

pub invariant_of-self : goal.invariant_of-self
invariant_of-self c = touch_keeps_table (Acquire c.args.key c.args.resource) c.self.inside c.acquire.new.self c.acquire.result c.acquire.ensures.step c.self.invariant c.acquire.new.touched c.acquire.ensures.touched
