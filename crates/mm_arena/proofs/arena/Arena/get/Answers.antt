use Rattle.std.proofs.Common.{arith}
use Rattle.std.proofs.lemmas.Grind.{common_steps}
use Rattle.mm_arena.proofs.arena.Arena.get.Goals as goal

pub returns-in_err-get : goal.returns-in_err-get
returns-in_err-get g c = grind (arith, common_steps)

pub returns : goal.returns
returns g c = grind (arith, common_steps)
