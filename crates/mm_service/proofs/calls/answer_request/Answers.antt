use Rattle.std.proofs.Common.{subst, refl, List, ℕ, ◌++◌, append_assoc, rules}
use Rattle.mm_lines.specs.Output.{Writes}
use Rattle.mm_lines.proofs.Lemmas.Output.{writes_added, writes_reply}
use Rattle.mm_service.specs.declared.effect.Effect.{Effect}
use Rattle.mm_service.specs.Text.{effect_text}
use Rattle.mm_service.proofs.calls.answer_request.Goals as goal

pub returns-in-Ok-clause-answered : goal.returns-in-Ok-clause-answered
returns-in-Ok-clause-answered g c =
    let did = c.in-Ok.ensures.replies in
    let new = c.make.new.manager in
    let written = c.write_effect.ensures.written in
    let caused = effect_text new did.1 in
    let E = λ (e : Effect). Writes (g.W.Write.contents c.make.new.writer) (g.W.Write.contents c.write_effect.new.writer) (c.make.new.output.items ++ effect_text new e) written.0 in
    let all = writes_reply caused did.4 did.5.1 (subst E did.5.0 written.1) in
    let W = λ (l : List ℕ). Writes (g.W.Write.contents c.args.writer.now) (g.W.Write.contents c.write_effect.new.writer) l written.0 in
    (did.0 ++ caused, written.0, record { reply = did.0; effect = did.1; replies = did.3; text = refl }, subst W (append_assoc c.args.output.now.items did.0 caused) all, written.2)

pub returns-in-Err-clause-answered : goal.returns-in-Err-clause-answered
returns-in-Err-clause-answered g c =
    let did = c.in-Err.ensures.replies in
    let caused = effect_text c.make.new.manager did.1 in
    let W = λ (l : List ℕ). Writes (g.W.Write.contents c.args.writer.now) (g.W.Write.contents c.make.new.writer) l (did.2 ++ caused) in
    let all = writes_added _ _ (c.args.output.now.items ++ did.0) did.2 caused did.4 in
    (did.0 ++ caused, did.2 ++ caused, record { reply = did.0; effect = did.1; replies = did.3; text = refl }, subst W (append_assoc c.args.output.now.items did.0 caused) all, search rules)
