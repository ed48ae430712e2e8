use Rattle.std.proofs.Common.{Ok}
use Rattle.mm_rules.specs.declared.reply.Acquired.TheVariants.{Granted}
use Rattle.mm_rules.specs.Event.{Acquire}
use Rattle.mm_table.proofs.Fields.Table.{touch_keeps_table}
use Rattle.mm_table.proofs.table.Table.grant_free.Goals as goal

pub invariant_of-self : goal.invariant_of-self
invariant_of-self c =
    touch_keeps_table (Acquire c.args.key c.args.resource) c.self.inside c.grant_free.new.self (Ok Granted) c.grant_free.ensures.step c.self.invariant c.self.inside.sets.changed (c.grant_free.ensures.touched c.self.inside.sets.changed)
