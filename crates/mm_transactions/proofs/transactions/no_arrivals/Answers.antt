use Rattle.std.proofs.Common.{replicate, arith, ap, ◌∙◌}
use Rattle.std.proofs.lemmas.Grind.{common_steps}
use Rattle.mm_transactions.proofs.transactions.no_arrivals.Goals as goal

pub returns : goal.returns
returns c = c.loop.invariant.0 ∙ ap (λ n. replicate n 0) (omega arith)

pub push_reserved-requires : goal.push_reserved-requires
push_reserved-requires c = grind (arith, common_steps)

pub loop-preserved : goal.loop-preserved
loop-preserved c = grind (arith, common_steps)
