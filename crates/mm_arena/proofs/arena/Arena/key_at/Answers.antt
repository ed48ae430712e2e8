use Rattle.std.proofs.Common.{arith}
use Rattle.std.proofs.lemmas.Grind.{common_steps}
use Rattle.mm_arena.proofs.arena.Arena.key_at.Goals as goal

pub returns-in_err-slot : goal.returns-in_err-slot
returns-in_err-slot g c = grind (arith, common_steps)

pub returns : goal.returns
returns g c = grind (arith, common_steps)
