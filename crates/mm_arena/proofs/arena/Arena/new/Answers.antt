use Rattle.std.proofs.Common.{replicate, arith, ap, ◌∙◌}
use Rattle.std.proofs.lemmas.Grind.{common_steps}
use Rattle.mm_arena.proofs.Lemmas.OpeningSlots.{new_slot, IsLaidOut-opening, seen-opening}
use Rattle.mm_arena.proofs.arena.Arena.new.Goals as goal

pub invariant_of-result : goal.invariant_of-result
invariant_of-result g c =
    let all = c.loop.invariant.0 ∙ ap (λ n. replicate n new_slot) (omega arith) in
    IsLaidOut-opening _ c.args.capacity _ all c.requires.capacity_in_range c.requires.some_generation

pub returns : goal.returns
returns g c =
    let all = c.loop.invariant.0 ∙ ap (λ n. replicate n new_slot) (omega arith) in
    seen-opening _ c.args.capacity _ all

pub push_reserved-requires : goal.push_reserved-requires
push_reserved-requires g c = grind (arith, common_steps)

pub loop-preserved : goal.loop-preserved
loop-preserved g c = grind (arith, common_steps)
