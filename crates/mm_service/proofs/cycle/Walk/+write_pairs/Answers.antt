use Rattle.std.proofs.Common.{◌≡◌, ◌∙◌, ap, ◌++◌, ◌-◌, suc, refl, sym, subst, List, ℕ, arith}
use Rattle.std.proofs.lemmas.Result.{IfOk-from_err}
use Rattle.mm_lines.specs.Output.{Writes}
use Rattle.mm_lines.proofs.Lemmas.Output.{writes_added, writes_reply}
use Rattle.mm_service.proofs.Lemmas.Pieces.{writes_after, writes_printed}
use Rattle.mm_service.specs.Cycle.{pair_text, pairs_text}
use Rattle.mm_service.specs.Reply.{name_at}
use Rattle.mm_service.proofs.Lemmas.Cycle.{pairs_last, pairs_more}
use Rattle.mm_service.proofs.cycle.Walk.+write_pairs.Goals as goal

pub returns-in_err-make_room-clause-written : goal.returns-in_err-make_room-clause-written
returns-in_err-make_room-clause-written g t c =
    let room = c.in_err-make_room.ensures.written in
    let rest = pairs_text c.args.self.left c.args.manager.now c.args.self.requester c.args.self.at in
    (room.0 ++ rest, writes_added _ _ _ _ rest room.1, IfOk-from_err _ _ c.from_residual.ensures.0)

pub returns-then-eq-clause-written : goal.returns-then-eq-clause-written
returns-then-eq-clause-written g t c =
    let m = c.args.manager.now in
    let w = c.in-Some.wait in
    let room = c.in_ok-make_room.ensures.written in
    let pair = pair_text c.args.self.at (name_at m w.number) in
    let printed : c.print_pair.new.output.items ≡ c.make_room.new.output.items ++ pair = c.print_pair.ensures.added ∙ ap (λ n. c.make_room.new.output.items ++ pair_text c.args.self.at n) c.name_at.ensures.name in
    let more : c.args.self.left ≡ suc (c.args.self.left - 1) = omega (arith, c.if-self-eq0.false) in
    let all = pairs_last c.args.self.left (c.args.self.left - 1) m c.args.self.requester c.args.self.at w more (sym c.in-Some.ensures) (sym c.if-eq.ensures) in
    let P = λ (l : List ℕ). Writes (g.W.Write.contents c.args.writer.now) (g.W.Write.contents c.make_room.new.writer) (c.args.output.now.items ++ l) c.print_pair.new.output.items in
    (c.print_pair.new.output.items, subst P (sym all) (writes_reply pair room.1 room.2 (writes_printed _ c.make_room.new.output.items pair c.print_pair.new.output.items printed)), refl)

pub returns-clause-written : goal.returns-clause-written
returns-clause-written g t c =
    let m = c.args.manager.now in
    let w = c.in-Some.wait in
    let room = c.in_ok-make_room.ensures.written in
    let pair = pair_text c.args.self.at (name_at m w.number) in
    let printed : c.print_pair.new.output.items ≡ c.make_room.new.output.items ++ pair = c.print_pair.ensures.added ∙ ap (λ n. c.make_room.new.output.items ++ pair_text c.args.self.at n) c.name_at.ensures.name in
    let rest = pairs_text (c.args.self.left - 1) m c.args.self.requester w.holder in
    let written = c.write_pairs.ensures.written in
    let more : c.args.self.left ≡ suc (c.args.self.left - 1) = omega (arith, c.if-self-eq0.false) in
    let all = pairs_more c.args.self.left (c.args.self.left - 1) m c.args.self.requester c.args.self.at w more (sym c.in-Some.ensures) (sym c.if-eq.ensures) in
    let P = λ (l : List ℕ). Writes (g.W.Write.contents c.args.writer.now) (g.W.Write.contents c.write_pairs.new.writer) (c.args.output.now.items ++ l) written.0 in
    (written.0, subst P (sym all) (writes_reply (pair ++ rest) room.1 room.2 (writes_after _ _ c.make_room.new.output.items pair c.print_pair.new.output.items rest written.0 printed written.1)), written.2)
