use Rattle.std.proofs.Common.{sym, subst, List, ℕ, ◌++◌, [], append-nil}
use Rattle.mm_lines.specs.Output.{Writes}
use Rattle.mm_lines.proofs.Lemmas.Output.{writes_then}
use Rattle.mm_service.specs.Cycle.{pairs_text}
use Rattle.mm_service.proofs.Lemmas.Pieces.{writes_line}
use Rattle.std.proofs.lemmas.Result.{IfOk-from_err}
use Rattle.mm_service.proofs.cycle.write_cycle.Goals as goal

pub returns-in_err-write_pairs-clause-written : goal.returns-in_err-write_pairs-clause-written
returns-in_err-write_pairs-clause-written g c =
    let pairs = c.in_err-write_pairs.ensures.written in
    let old = c.args.output.now.items in
    (_, writes_line _ _ old [] _ old pairs.0 (sym (append-nil old)) pairs.1, IfOk-from_err _ _ c.from_residual.ensures.0)

pub returns-in_err-make_room-clause-written : goal.returns-in_err-make_room-clause-written
returns-in_err-make_room-clause-written g c =
    let pairs = c.in_ok-write_pairs.ensures.written in
    let room = c.in_err-make_room.ensures.written in
    let old = c.args.output.now.items in
    let P = λ (l : List ℕ). Writes (g.W.Write.contents c.args.writer.now) (g.W.Write.contents c.write_pairs.new.writer) (old ++ pairs_text c.args.walk.left c.args.manager.now c.args.walk.requester c.args.walk.at) l in
    let all = writes_then _ _ _ _ _ _ (subst P pairs.2 pairs.1) room.1 in
    (_, writes_line _ _ old [] _ old room.0 (sym (append-nil old)) all, IfOk-from_err _ _ c.from_residual-in_err-make_room.ensures.0)

pub returns-clause-written : goal.returns-clause-written
returns-clause-written g c =
    let pairs = c.in_ok-write_pairs.ensures.written in
    let room = c.in_ok-make_room.ensures.written in
    let old = c.args.output.now.items in
    let P = λ (l : List ℕ). Writes (g.W.Write.contents c.args.writer.now) (g.W.Write.contents c.write_pairs.new.writer) (old ++ pairs_text c.args.walk.left c.args.manager.now c.args.walk.requester c.args.walk.at) l in
    let Q = λ (l : List ℕ). Writes (g.W.Write.contents c.args.writer.now) (g.W.Write.contents c.make_room.new.writer) (old ++ pairs_text c.args.walk.left c.args.manager.now c.args.walk.requester c.args.walk.at) l in
    let all = subst Q room.2 (writes_then _ _ _ _ _ _ (subst P pairs.2 pairs.1) room.1) in
    (_, writes_line _ _ old [] _ old c.make_room.new.output.items (sym (append-nil old)) all, sym c.end_line.ensures)
