use Rattle.std.proofs.Common.{ap, inl, length, arith}
use Rattle.mm_rules.specs.Event.{tenant_of}
use Rattle.mm_service.proofs.Lemmas.Lists.{few_at}
use Rattle.mm_connections.proofs.reads.count_live.Goals as goal

pub count-requires-clause-fits : goal.count-requires-clause-fits
count-requires-clause-fits c =
    let few = few_at (tenant_of c.args.manager.now.table) c.args.manager.now c.keeps_laws.ensures in
    let is = ap length c.transactions.ensures in
    inl (omega (arith, few, is))
