use Rattle.std.proofs.Common.{◌∙◌, ap, subst, List, ℕ, ◌∷◌, ◌++◌, codes, decimal}
use Rattle.std.proofs.lemmas.Result.{IfOk-from_err}
use Rattle.mm_lines.specs.Output.{Writes}
use Rattle.mm_manager.specs.Reads.{waits_of}
use Rattle.mm_manager.specs.declared.reply.Wait.{Wait}
use Rattle.mm_service.specs.Reply.{line_text, edge_text, name_at}
use Rattle.mm_service.proofs.Lemmas.Pieces.{writes_kept, writes_piece}
use Rattle.mm_connections.specs.Hub.{to}
use Rattle.mm_connections.specs.Reads.{edge_lines}
use Rattle.mm_connections.proofs.Lemmas.Lines.{printed_both}
use Rattle.mm_connections.proofs.served.ServedManager.write_edges.Goals as goal

pub loop-wait-preserved : goal.loop-wait-preserved
loop-wait-preserved g c =
    let m = c.args.self.now.manager in
    let n = c.args.connection in
    let w = c.in-Some.wait in
    let room = c.in_ok-make_room.ensures.written in
    let kept = c.loop-wait.output.items in
    let now = c.make_room.new.output.items in
    let bytes = c.args.output.now.items ++ edge_lines n m (waits_of m.table) in
    let W = λ (l : List ℕ). Writes (g.W.Write.contents c.loop-wait.writer) (g.W.Write.contents c.make_room.new.writer) kept l in
    let P = λ (l : List Wait). Writes (g.W.Write.contents c.args.writer.now) (g.W.Write.contents c.loop-wait.writer) bytes (kept ++ edge_lines n m l) in
    let all = writes_kept _ _ _ bytes kept (edge_lines n m (w ∷ c.next.new.self)) now (subst P c.in-Some.ensures.steps c.loop-wait.invariant) (subst W room.2 room.1) in
    let printed = printed_both now (decimal n ++ codes " ") c.print_to.new.output.items _ c.print_edge.new.output.items c.print_to.ensures.added c.print_edge.ensures.added in
    let line = printed ∙ ap (λ b. now ++ to n (line_text (edge_text w.key b w.holder))) c.name_at.ensures.name in
    writes_piece _ _ bytes now (to n (line_text (edge_text w.key (name_at m w.number) w.holder))) (edge_lines n m c.next.new.self) c.print_edge.new.output.items all line

pub returns-in_err-make_room-clause-written : goal.returns-in_err-make_room-clause-written
returns-in_err-make_room-clause-written g c =
    let room = c.in_err-make_room.ensures.written in
    let rest = edge_lines c.args.connection c.args.self.now.manager c.loop-wait.wait-iterator in
    (room.0 ++ rest, writes_kept _ _ _ _ c.loop-wait.output.items rest room.0 c.loop-wait.invariant room.1, IfOk-from_err _ _ c.from_residual.ensures.0)
