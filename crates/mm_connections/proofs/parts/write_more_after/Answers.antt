use Rattle.std.proofs.Common.{◌++◌, refl}
use Rattle.std.proofs.lemmas.Result.{IfOk-from_err}
use Rattle.mm_lines.proofs.Lemmas.Output.{writes_added, writes_reply}
use Rattle.mm_service.proofs.Lemmas.Pieces.{writes_printed}
use Rattle.mm_connections.specs.Text.{more_text}
use Rattle.mm_connections.proofs.parts.write_more_after.Goals as goal

pub returns-in_err-make_room-in-Ok-clause-more : goal.returns-in_err-make_room-in-Ok-clause-more
returns-in_err-make_room-in-Ok-clause-more g c =
    let room = c.in_err-make_room-in-Ok.ensures.written in
    let end = more_text c.args.key in
    rw c.in-Ok.is (room.0 ++ end, writes_added _ _ _ _ end room.1, IfOk-from_err _ _ c.from_residual.ensures.0)

pub returns-in_ok-make_room-in-Ok-clause-more : goal.returns-in_ok-make_room-in-Ok-clause-more
returns-in_ok-make_room-in-Ok-clause-more g c =
    let room = c.in_ok-make_room-in-Ok.ensures.written in
    let end = more_text c.args.key in
    let now = c.print_more.new.output.items in
    rw c.in-Ok.is (now, writes_reply end room.1 room.2 (writes_printed _ c.make_room.new.output.items end now c.print_more.ensures.added), refl)
