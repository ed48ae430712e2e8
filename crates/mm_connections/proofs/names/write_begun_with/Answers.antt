use Rattle.std.proofs.Common.{sym, subst, codes, Option, ◌++◌}
use Rattle.mm_lines.specs.Output.{Writes}
use Rattle.mm_service.specs.Reply.{begun_text, line_text}
use Rattle.mm_service.proofs.Lemmas.Pieces.{writes_ended}
use Rattle.mm_connections.specs.Names.{begun_with_text, reason_text}
use Rattle.mm_connections.specs.declared.names.Stop.{Stop}
use Rattle.mm_connections.proofs.Lemmas.Lines.{printed_both}
use Rattle.mm_connections.proofs.names.write_begun_with.Goals as goal

pub returns-in-Some-clause-written : goal.returns-in-Some-clause-written
returns-in-Some-clause-written g c =
    let m = c.args.manager.now in
    let k = c.args.key in
    let old = c.args.output.now.items in
    let stop = c.in-Some.stop in
    let written = c.write_reason.ensures.written in
    let W = λ (o : Option Stop). Writes (g.W.Write.contents c.args.writer.now) (g.W.Write.contents c.write_reason.new.writer) (old ++ line_text (begun_with_text m k o)) written.0 in
    let printed = printed_both old (begun_text k) c.print_key.new.output.items (codes " ") c.print_text.new.output.items c.print_key.ensures.added c.print_text.ensures in
    let line = writes_ended _ _ old (begun_text k ++ codes " ") (reason_text m k stop.place stop.reason) c.print_text.new.output.items written.0 printed written.1 in
    (written.0, subst W (sym c.in-Some.is) line, written.2)
