use Rattle.std.proofs.Common.{sym, subst, codes, decimal, ◌++◌}
use Rattle.mm_lines.specs.Output.{Writes}
use Rattle.mm_service.specs.Cycle.{cycle_text}
use Rattle.mm_service.specs.Reply.{line_text}
use Rattle.mm_service.proofs.Lemmas.Pieces.{writes_ended}
use Rattle.mm_connections.specs.Names.{reason_text}
use Rattle.mm_connections.specs.declared.names.StopReason.{StopReason}
use Rattle.mm_connections.proofs.names.write_reason.Goals as goal

pub returns-in-Deadlock-clause-written : goal.returns-in-Deadlock-clause-written
returns-in-Deadlock-clause-written g c =
    let m = c.args.manager.now in
    let k = c.args.key in
    let old = c.args.output.now.items in
    let written = c.write_cycle.ensures.written in
    let W = λ (r : StopReason). Writes (g.W.Write.contents c.args.writer.now) (g.W.Write.contents c.write_cycle.new.writer) (old ++ line_text (reason_text m k c.args.stop.place r)) written.0 in
    let line = writes_ended _ _ old (codes "deadlock " ++ decimal c.args.stop.place) (cycle_text m k c.in-Deadlock.holder) c.print_number-in-Deadlock.new.output.items written.0 c.print_number-in-Deadlock.ensures.added written.1 in
    (written.0, subst W (sym c.in-Deadlock.is) line, written.2)
