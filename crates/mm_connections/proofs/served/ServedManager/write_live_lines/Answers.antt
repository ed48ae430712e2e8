use Rattle.std.proofs.Common.{subst, List, ℕ, ◌∷◌, ◌++◌, codes, decimal}
use Rattle.std.proofs.lemmas.Result.{IfOk-from_err}
use Rattle.mm_arena.specs.declared.key.Key.{Key}
use Rattle.mm_lines.specs.Output.{Writes}
use Rattle.mm_manager.specs.Reads.{live_of}
use Rattle.mm_service.proofs.Lemmas.Pieces.{writes_kept, writes_piece}
use Rattle.mm_connections.specs.Hub.{Hub, to}
use Rattle.mm_connections.specs.Reads.{live_line, live_lines}
use Rattle.mm_connections.specs.private.Served.{hub_of}
use Rattle.mm_connections.proofs.Lemmas.Lines.{printed_both}
use Rattle.mm_connections.proofs.served.ServedManager.write_live_lines.Goals as goal

pub loop-key-preserved : goal.loop-key-preserved
loop-key-preserved g c =
    let h : Hub = hub_of c.args.self.now in
    let n = c.args.connection in
    let k = c.in-Some.key in
    let room = c.in_ok-make_room.ensures.written in
    let kept = c.loop-key.output.items in
    let now = c.make_room.new.output.items in
    let bytes = c.args.output.now.items ++ live_lines n h (live_of h.manager.table) in
    let W = λ (l : List ℕ). Writes (g.W.Write.contents c.loop-key.writer) (g.W.Write.contents c.make_room.new.writer) kept l in
    let P = λ (l : List Key). Writes (g.W.Write.contents c.args.writer.now) (g.W.Write.contents c.loop-key.writer) bytes (kept ++ live_lines n h l) in
    let all = writes_kept _ _ _ bytes kept (live_lines n h (k ∷ c.next.new.self)) now (subst P c.in-Some.ensures.steps c.loop-key.invariant) (subst W room.2 room.1) in
    let printed = printed_both now (decimal n ++ codes " ") c.print_to.new.output.items _ c.print_live.new.output.items c.print_to.ensures.added c.print_live.ensures in
    writes_piece _ _ bytes now (to n (live_line h k)) (live_lines n h c.next.new.self) c.print_live.new.output.items all printed

pub returns-in_err-make_room-clause-written : goal.returns-in_err-make_room-clause-written
returns-in_err-make_room-clause-written g c =
    let room = c.in_err-make_room.ensures.written in
    let rest = live_lines c.args.connection (hub_of c.args.self.now) c.loop-key.key-iterator in
    (room.0 ++ rest, writes_kept _ _ _ _ c.loop-key.output.items rest room.0 c.loop-key.invariant room.1, IfOk-from_err _ _ c.from_residual.ensures.0)
