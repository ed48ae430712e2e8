use Rattle.std.proofs.Common.{ℕ, List, sym, subst, ◌++◌, None}
use Rattle.std.proofs.lemmas.Result.{IfOk-from_err}
use Rattle.mm_lines.specs.Output.{Writes}
use Rattle.mm_lines.proofs.Lemmas.Output.{writes_added, writes_reply}
use Rattle.mm_service.specs.declared.effect.Effect.{Effect}
use Rattle.mm_service.specs.Reply.{line_text}
use Rattle.mm_service.proofs.Lemmas.Pieces.{writes_after}
use Rattle.mm_connections.specs.Begun.{connection_of}
use Rattle.mm_connections.specs.Hub.{Hub, to_any}
use Rattle.mm_connections.specs.Text.{aborted_text, deadlock_text, end_receiver, events_text, told_text}
use Rattle.mm_connections.specs.private.Served.{hub_of}
use Rattle.mm_connections.proofs.served.ServedManager.write_events.Goals as goal

pub returns-in_err-make_room-in-Ended-clause-written : goal.returns-in_err-make_room-in-Ended-clause-written
returns-in_err-make_room-in-Ended-clause-written g c =
    let h : Hub = hub_of c.args.self.now in
    let k = c.in-Ended.key in
    let heard = c.args.heard in
    let room = c.in_err-make_room-in-Ended.ensures.written in
    let rest = to_any (end_receiver heard.connection (connection_of h.begun k)) (line_text (aborted_text k)) ++ told_text None h in
    let W = λ (e : Effect). Writes (g.W.Write.contents c.args.writer.now) (g.W.Write.contents c.make_room.new.writer) (c.args.output.now.items ++ events_text heard.connection heard.request heard.name.now h e) (room.0 ++ rest) in
    (room.0 ++ rest, subst W (sym c.in-Ended.is) (writes_added _ _ _ _ rest room.1), IfOk-from_err _ _ c.from_residual.ensures.0)

pub returns-in_ok-make_room-in-Ended-clause-written : goal.returns-in_ok-make_room-in-Ended-clause-written
returns-in_ok-make_room-in-Ended-clause-written g c =
    let h : Hub = hub_of c.args.self.now in
    let k = c.in-Ended.key in
    let heard = c.args.heard in
    let room = c.in_ok-make_room-in-Ended.ensures.written in
    let line = to_any (end_receiver heard.connection (connection_of h.begun k)) (line_text (aborted_text k)) in
    let told = told_text None h in
    let written = c.write_told-in-Ended.ensures.written in
    let second = writes_after _ _ c.make_room.new.output.items line c.print_end.new.output.items told written.0 c.print_end.ensures written.1 in
    let W = λ (e : Effect). Writes (g.W.Write.contents c.args.writer.now) (g.W.Write.contents c.write_told-in-Ended.new.writer) (c.args.output.now.items ++ events_text heard.connection heard.request heard.name.now h e) written.0 in
    (written.0, subst W (sym c.in-Ended.is) (writes_reply (line ++ told) room.1 room.2 second), written.2)

pub returns-in-Deadlock-clause-written : goal.returns-in-Deadlock-clause-written
returns-in-Deadlock-clause-written g c =
    let h : Hub = hub_of c.args.self.now in
    let heard = c.args.heard in
    let old = c.args.output.now.items in
    let written = c.write_deadlock.ensures.written in
    let W = λ (e : Effect). Writes (g.W.Write.contents c.args.writer.now) (g.W.Write.contents c.write_deadlock.new.writer) (old ++ events_text heard.connection heard.request heard.name.now h e) written.0 in
    let N = λ (name : List ℕ). Writes (g.W.Write.contents c.args.writer.now) (g.W.Write.contents c.write_deadlock.new.writer) (old ++ deadlock_text h.manager c.in-Deadlock.key name c.in-Deadlock.holder) written.0 in
    (written.0, subst W (sym c.in-Deadlock.is) (subst N c.asked_name-name.ensures.name written.1), written.2)
