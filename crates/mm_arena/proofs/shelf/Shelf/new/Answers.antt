use Rattle.std.proofs.Common.{None, replicate, ap, ◌∙◌, arith}
use Rattle.std.proofs.lemmas.Grind.{common_steps}
use Rattle.mm_arena.specs.private.Stored.{seen}
use Rattle.mm_arena.proofs.Lemmas.Stored.{seen-none}
use Rattle.mm_arena.proofs.shelf.Shelf.new.Goals as goal

pub returns : goal.returns
returns g c = ap seen (c.loop.invariant.0 ∙ ap (λ n. replicate n None) (omega arith)) ∙ seen-none c.args.capacity

pub push_reserved-requires : goal.push_reserved-requires
push_reserved-requires g c = grind (arith, common_steps)

pub loop-preserved : goal.loop-preserved
loop-preserved g c = grind (arith, common_steps)
