use Rattle.std.proofs.Common.{◌++◌}
use Rattle.mm_lines.specs.Output.{Writes}
use Rattle.mm_manager.specs.Reads.{live_of}
use Rattle.mm_connections.specs.Reads.{live_lines}
use Rattle.mm_connections.specs.private.Served.{hub_of}
use Rattle.mm_connections.proofs.served.ServedManager.write_live_lines.Given as goal

-- the lines so far are written or kept
abbrev pub invariant-loop-key : goal.invariant-loop-key
invariant-loop-key g l =
    Writes (g.W.Write.contents l.initial.writer) (g.W.Write.contents l.writer) (l.initial.output.items ++ live_lines l.connection (hub_of l.self) (live_of l.self.manager.table))
    (l.output.items ++ live_lines l.connection (hub_of l.self) l.key-iterator)
