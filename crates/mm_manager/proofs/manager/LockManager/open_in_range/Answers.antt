use Rattle.std.proofs.Common.{arith}
use Rattle.mm_manager.specs.Opening.{table_config}
use Rattle.mm_manager.proofs.Lemmas.Opening.{opening_labels, opening_sound}
use Rattle.mm_manager.proofs.manager.LockManager.open_in_range.Goals as goal

pub invariant_of-result : goal.invariant_of-result
invariant_of-result c = record {
  sound = opening_sound (table_config c.args.config) c.args.config.name_bytes (record { table = c.in_ok-table.table; names = c.in_ok-names.names })
      c.in_ok-table.ensures.range c.in_ok-table.ensures.opened c.in_ok-names.ensures.opened;
  counted = omega arith;
  labels = rw c.in_ok-table.ensures.opened (opening_labels (table_config c.args.config));
}
