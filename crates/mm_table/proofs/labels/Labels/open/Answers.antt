use Rattle.std.proofs.Common.{subst, sym}
use Rattle.mm_table.specs.private.Labels.{AreAtMost}
use Rattle.mm_table.proofs.Fields.Opening.{opened_counters}
use Rattle.mm_table.proofs.labels.Labels.open.Goals as goal

pub invariant_of-result : goal.invariant_of-result
invariant_of-result c =
    let greatest = c.unwrap.result.counter in
    subst (AreAtMost greatest) (sym c.in_ok-processes.ensures) (opened_counters greatest 0 c.args.count)
