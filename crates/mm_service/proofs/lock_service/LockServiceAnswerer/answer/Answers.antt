use Rattle.std.proofs.Common.{◌≡◌, ◌∙◌, refl, sym, subst, Bool, false, List, ℕ, [], Result, Ok, Err, IfOk, OnOk, append-nil}
use Rattle.std.specs.Bool.{if◌then◌else◌}
use Rattle.std.specs.Result.{result_and}
use Rattle.mm_lines.specs.Output.{Writes}
use Rattle.mm_lines.proofs.Lemmas.Output.{writes_none}
use Rattle.mm_manager.specs.LockState.{LockState, IsLawful}
use Rattle.mm_service.specs.Line.{line_of}
use Rattle.mm_service.specs.declared.line.Line.{Line}
use Rattle.mm_service.specs.declared.line.Line.TheVariants as kind
use Rattle.mm_service.specs.Text.{AnswersLine, AnswersRequest}
use Rattle.mm_service.proofs.lock_service.LockServiceAnswerer.answer.Goals as goal

-- a request is not malformed
not_malformed : {T E : Type 0} (P : Type 0) (outcome : Result T E) → OnOk outcome P → IfOk (result_and outcome (Ok false)) (λ (malformed : Bool). ◌≡◌ {A = ℕ} 0 (if malformed then 1 else 0) × P)
not_malformed P (Ok done) h = (refl, h)
not_malformed P (Err fault) h = tt

pub returns-in-Silent-clause-answered : goal.returns-in-Silent-clause-answered
returns-in-Silent-clause-answered g c =
    let line = sym c.in-Silent.is ∙ c.line_of-named.ensures.line in
    let m = c.args.self.now in
    let kept = c.args.output.now.items in
    let at = g.W.Write.contents c.args.writer.now in
    let L = λ (l : Line). AnswersLine l (line_of c.args.line.now).name m [] 0 m in
    let P = λ (l : List ℕ). Writes at at l kept in
    ([], 0, kept, subst L line (refl, refl, refl), subst P (sym (append-nil kept)) (writes_none at kept), (refl, refl))

pub returns-in-Request-clause-answered : goal.returns-in-Request-clause-answered
returns-in-Request-clause-answered g c =
    let line = sym c.in-Request.is ∙ c.line_of-named.ensures.line in
    let made = c.answer_request-outcome.ensures.answered in
    let name = (line_of c.args.line.now).name in
    let new = c.answer_request-outcome.new.manager in
    let M = λ (m : LockState). IsLawful m × AnswersRequest c.in-Request.request c.line_of-named.result.name.now m made.0 new in
    let before = subst M c.self.view_is (c.keeps_laws.ensures, made.2) in
    let N = λ (n : List ℕ). AnswersLine (kind.Request c.in-Request.request) n c.args.self.now made.0 0 new in
    let L = λ (l : Line). AnswersLine l name c.args.self.now made.0 0 new in
    (made.0, 0, made.1, subst L line (subst N c.line_of-named.ensures.name (before.0, before.1, c.keeps_laws-in-Request.ensures, refl)), made.3, rw c.and.ensures (not_malformed _ _ made.4))
