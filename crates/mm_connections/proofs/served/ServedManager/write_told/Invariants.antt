use Rattle.std.proofs.Common.{◌++◌, drop}
use Rattle.mm_lines.specs.Output.{Writes}
use Rattle.mm_connections.specs.Text.{told_lines}
use Rattle.mm_connections.specs.private.Served.{hub_of}
use Rattle.mm_connections.proofs.served.ServedManager.write_told.Given as goal

-- the lines so far are written or kept
abbrev pub invariant-loop-grant : goal.invariant-loop-grant
invariant-loop-grant g l =
    Writes (g.W.Write.contents l.initial.writer) (g.W.Write.contents l.writer) (l.initial.output.items ++ told_lines l.but (hub_of l.self) l.grant-items)
    (l.output.items ++ told_lines l.but (hub_of l.self) (drop l.grant-index l.grant-items))
