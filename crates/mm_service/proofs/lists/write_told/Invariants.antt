use Rattle.std.proofs.Common.{◌++◌, drop}
use Rattle.mm_lines.specs.Output.{Writes}
use Rattle.mm_service.specs.Text.{told_lines}
use Rattle.mm_service.proofs.lists.write_told.Given as goal

-- the lines so far are written or kept
abbrev pub invariant-loop-grant : goal.invariant-loop-grant
invariant-loop-grant g l = Writes (g.W.Write.contents l.initial.writer) (g.W.Write.contents l.writer) (l.initial.output.items ++ told_lines l.manager l.grant-items) (l.output.items ++ told_lines l.manager (drop l.grant-index l.grant-items))
