use Rattle.std.proofs.Common.{sym}
use Rattle.mm_rules.proofs.States.Lookups.{holder_within}
use Rattle.mm_clients.proofs.alone.look.Goals as goal

-- who waits is a process of the table
pub public_label-own-requires : goal.public_label-own-requires
public_label-own-requires c = (holder_within c.args.table.now c.keeps_laws.ensures.lawful.well_formed c.args.process c.in_ok-holder.holder (sym c.in_ok-holder.ensures.holder)).0
