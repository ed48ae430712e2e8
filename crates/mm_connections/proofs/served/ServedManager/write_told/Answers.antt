use Rattle.std.proofs.Common.{ap, refl, subst, List, ℕ, ◌++◌, drop}
use Rattle.std.proofs.lemmas.Result.{IfOk-from_err}
use Rattle.mm_lines.specs.Output.{Writes}
use Rattle.mm_settled.specs.declared.reply.Grant.{Grant}
use Rattle.mm_service.specs.Text.{told_line}
use Rattle.mm_service.proofs.Lemmas.Pieces.{writes_kept, writes_next, writes_whole}
use Rattle.mm_connections.specs.Begun.{connection_of}
use Rattle.mm_connections.specs.Hub.{Hub, to_any}
use Rattle.mm_connections.specs.Text.{receiver, told_lines}
use Rattle.mm_connections.specs.private.Served.{hub_of}
use Rattle.mm_connections.proofs.served.ServedManager.write_told.Goals as goal

pub loop-grant-preserved : goal.loop-grant-preserved
loop-grant-preserved g c =
    let h : Hub = hub_of c.args.self.now in
    let but = c.args.but in
    let none : Grant = record { key = record { process = 0; generation = 0 }; resource = 0 } in
    writes_next (told_lines but h) (λ (x : Grant). to_any (receiver but (connection_of h.begun x.key)) (told_line h.manager x)) (λ x xs. refl) _ _ _ _ c.loop-grant.output.items c.make_room.new.output.items c.print_grant.new.output.items
    c.granted-grant-items.result.now c.loop-grant.grant-index none c.loop-grant-test.true c.loop-grant.invariant c.in_ok-make_room.ensures.written c.print_grant.ensures

pub returns-in_err-make_room-clause-written : goal.returns-in_err-make_room-clause-written
returns-in_err-make_room-clause-written g c =
    let h : Hub = hub_of c.args.self.now in
    let but = c.args.but in
    let room = c.in_err-make_room.ensures.written in
    let items = c.granted-grant-items.result.now in
    let rest = told_lines but h (drop c.loop-grant.grant-index items) in
    let all = ap (told_lines but h) c.granted-grant-items.ensures in
    let P = λ (l : List ℕ). Writes (g.W.Write.contents c.args.writer.now) (g.W.Write.contents c.make_room.new.writer) (c.args.output.now.items ++ l) (room.0 ++ rest) in
    (room.0 ++ rest, subst P all (writes_kept _ _ _ _ c.loop-grant.output.items rest room.0 c.loop-grant.invariant room.1), IfOk-from_err _ _ c.from_residual.ensures.0)

pub returns-clause-written : goal.returns-clause-written
returns-clause-written g c =
    let h : Hub = hub_of c.args.self.now in
    let but = c.args.but in
    let kept = c.loop-grant.output.items in
    let all = ap (told_lines but h) c.granted-grant-items.ensures in
    let P = λ (l : List ℕ). Writes (g.W.Write.contents c.args.writer.now) (g.W.Write.contents c.loop-grant.writer) (c.args.output.now.items ++ l) kept in
    (kept, subst P all (writes_whole (told_lines but h) refl _ _ _ kept c.granted-grant-items.result.now c.loop-grant.grant-index c.loop-grant-test.false c.loop-grant.invariant), refl)
