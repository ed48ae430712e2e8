use Rattle.std.proofs.lemmas.Bool.{ne_eqb}
use Rattle.mm_settled.proofs.acquire.settle_waiter.Goals as goal

pub take_back-requires-clause-live : goal.take_back-requires-clause-live
take_back-requires-clause-live c = (c.requires.closer c.settle-settled.new.table c.settle-settled.result c.settle-settled.ensures (ne_eqb c.settle-settled.result.verdicts 0 c.if-settled-eq0.false)).live

pub take_back-requires-clause-verdict : goal.take_back-requires-clause-verdict
take_back-requires-clause-verdict c = (c.requires.closer c.settle-settled.new.table c.settle-settled.result c.settle-settled.ensures (ne_eqb c.settle-settled.result.verdicts 0 c.if-settled-eq0.false)).verdict

pub take_back-requires-clause-count : goal.take_back-requires-clause-count
take_back-requires-clause-count c = (c.requires.closer c.settle-settled.new.table c.settle-settled.result c.settle-settled.ensures (ne_eqb c.settle-settled.result.verdicts 0 c.if-settled-eq0.false)).count
