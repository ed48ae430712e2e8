use Rattle.std.proofs.Common.{ap, inl, length, arith}
use Rattle.mm_service.proofs.Lemmas.Lists.{few_waits}
use Rattle.mm_service.proofs.lists.count_waits.Goals as goal

pub count-requires-clause-fits : goal.count-requires-clause-fits
count-requires-clause-fits c =
    let few = few_waits c.args.manager.now c.keeps_laws.ensures in
    let is = ap length c.graph.ensures in
    inl (omega (arith, few, is))
