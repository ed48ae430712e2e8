use Rattle.std.proofs.Common.{◌++◌, codes, decimal}
use Rattle.std.proofs.lemmas.Result.{IfOk-from_err}
use Rattle.mm_lines.proofs.Lemmas.Output.{writes_added, writes_reply}
use Rattle.mm_service.specs.Cycle.{pair_text, pairs_text}
use Rattle.mm_service.specs.Reply.{line_text}
use Rattle.mm_service.proofs.Lemmas.Pieces.{writes_after, writes_ended}
use Rattle.mm_connections.specs.Hub.{to}
use Rattle.mm_connections.specs.Text.{deadlock_text}
use Rattle.mm_connections.proofs.Lemmas.Lines.{printed_both}
use Rattle.mm_connections.proofs.served.ServedManager.write_deadlock.Goals as goal

pub returns-in_err-make_room-clause-written : goal.returns-in_err-make_room-clause-written
returns-in_err-make_room-clause-written g c =
    let room = c.in_err-make_room.ensures.written in
    let rest = deadlock_text c.args.self.now.manager c.args.key c.args.name.now c.args.holder in
    (room.0 ++ rest, writes_added _ _ _ _ rest room.1, IfOk-from_err _ _ c.from_residual.ensures.0)

pub returns-clause-written : goal.returns-clause-written
returns-clause-written g c =
    let room = c.in_ok-make_room.ensures.written in
    let written = c.write_cycle.ensures.written in
    let head = codes "* deadlock" ++ pair_text c.args.key c.args.name.now in
    let pairs = pairs_text 15 c.args.self.now.manager c.args.key c.args.holder in
    let kept = c.make_room.new.output.items in
    let at = c.print_to.new.output.items in
    let printed = printed_both at (codes "* deadlock") c.print_text.new.output.items (pair_text c.args.key c.args.name.now) c.print_pair.new.output.items c.print_text.ensures c.print_pair.ensures.added in
    let line = writes_ended _ _ at head pairs c.print_pair.new.output.items written.0 printed written.1 in
    (written.0, writes_reply (to 0 (line_text (head ++ pairs))) room.1 room.2 (writes_after _ _ kept (decimal 0 ++ codes " ") at (line_text (head ++ pairs)) written.0 c.print_to.ensures.added line), written.2)
