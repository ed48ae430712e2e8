use Rattle.std.proofs.Common.{length}
use Rattle.mm_lines.specs.Output.{Writes}
use Rattle.mm_lines.proofs.output.write_all.Given as goal

-- what is not written is left
abbrev pub invariant-loop-rest : goal.invariant-loop-rest
invariant-loop-rest g l = Writes (g.W.Write.contents l.initial.writer) (g.W.Write.contents l.writer) l.bytes l.rest

abbrev pub decreases-loop-rest : goal.decreases-loop-rest
decreases-loop-rest g l = length l.rest
