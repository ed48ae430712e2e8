use Rattle.std.proofs.Common.{arith}
use Rattle.std.proofs.lemmas.Grind.{common_steps}
use Rattle.mm_board.proofs.board.opening_words.Goals as goal

pub loop-process-preserved : goal.loop-process-preserved
loop-process-preserved c = grind (arith, common_steps)

pub loop-preserved : goal.loop-preserved
loop-preserved c = grind (arith, common_steps)
