use Rattle.std.proofs.Common.{◌++◌}
use Rattle.mm_lines.specs.Output.{Writes}
use Rattle.mm_manager.specs.Reads.{waits_of}
use Rattle.mm_connections.specs.Reads.{edge_lines}
use Rattle.mm_connections.proofs.served.ServedManager.write_edges.Given as goal

-- the lines so far are written or kept
abbrev pub invariant-loop-wait : goal.invariant-loop-wait
invariant-loop-wait g l =
    Writes (g.W.Write.contents l.initial.writer) (g.W.Write.contents l.writer) (l.initial.output.items ++ edge_lines l.connection l.self.manager (waits_of l.self.manager.table))
    (l.output.items ++ edge_lines l.connection l.self.manager l.wait-iterator)
