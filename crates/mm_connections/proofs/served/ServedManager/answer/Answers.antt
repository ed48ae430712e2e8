use Rattle.std.proofs.Common.{◌≡◌, ◌∙◌, ◌≤◌, length, ℕ, Bool, false, List, [], Result, Ok, Err, IfOk, OnOk, sym, subst, refl, arith, append-nil, codes}
use Rattle.std.specs.Bool.{if◌then◌else◌}
use Rattle.std.specs.Result.{result_and}
use Rattle.mm_service.specs.Reply.{line_text}
use Rattle.mm_service.proofs.Lemmas.Config.{keeps_room}
use Rattle.mm_service.proofs.Lemmas.Pieces.{writes_printed}
use Rattle.mm_connections.specs.declared.line.Said.{Said}
use Rattle.mm_connections.specs.declared.line.Said.TheVariants as said
use Rattle.mm_connections.specs.Line.{said_of}
use Rattle.mm_connections.specs.Hub.{Hub, to}
use Rattle.mm_connections.specs.Text.{AnswersSaid}
use Rattle.mm_connections.specs.private.Served.{hub_of}
use Rattle.mm_connections.proofs.Lemmas.Said.{IsFit, said_fits}
use Rattle.mm_connections.proofs.served.ServedManager.answer.Goals as goal

-- what a connection asks for, and that it hangs up, is not malformed
not_malformed : {T E : Type 0} (P : Type 0) (outcome : Result T E) → OnOk outcome P → IfOk (result_and outcome (Ok false)) (λ (malformed : Bool). ◌≡◌ {A = ℕ} 0 (if malformed then 1 else 0) × P)
not_malformed P (Ok done) h = (refl, h)
not_malformed P (Err fault) h = tt

pub serve-outcome-requires-clause-connection : goal.serve-outcome-requires-clause-connection
serve-outcome-requires-clause-connection g c =
    let n = c.args.self.now.options.connections in
    let is = sym c.said_of-named.ensures.said ∙ c.in-Asks.is in
    let fits = subst (λ (s : Said). IsFit n s (said_of n c.args.line.now).name) is (said_fits n c.args.line.now) in
    omega (arith, fits.0, c.requires.lists)

pub serve-outcome-requires-clause-short : goal.serve-outcome-requires-clause-short
serve-outcome-requires-clause-short g c =
    let n = c.args.self.now.options.connections in
    let is = sym c.said_of-named.ensures.said ∙ c.in-Asks.is in
    let fits = subst (λ (s : Said). IsFit n s (said_of n c.args.line.now).name) is (said_fits n c.args.line.now) in
    subst (λ (name : List ℕ). length name ≤ 1048) (sym c.said_of-named.ensures.name) fits.1

pub hang_up-outcome-requires : goal.hang_up-outcome-requires
hang_up-outcome-requires g c =
    let n = c.args.self.now.options.connections in
    let is = sym c.said_of-named.ensures.said ∙ c.in-HangsUp.is in
    let fits = subst (λ (s : Said). IsFit n s (said_of n c.args.line.now).name) is (said_fits n c.args.line.now) in
    omega (arith, fits, c.requires.lists)

pub returns-in-Nobody-clause-answered : goal.returns-in-Nobody-clause-answered
returns-in-Nobody-clause-answered g c =
    let line = sym c.in-Nobody.is ∙ c.said_of-named.ensures.said in
    let h : Hub = hub_of c.args.self.now in
    let kept = c.args.output.now.items in
    let says = said_of c.args.self.now.options.connections c.args.line.now in
    let L = λ (s : Said). AnswersSaid s says.name h [] 1 h in
    ([], 1, kept, subst L line (refl, refl, refl), writes_printed _ kept [] kept (sym (append-nil kept)), (refl, refl))

pub returns-in-Malformed-clause-answered : goal.returns-in-Malformed-clause-answered
returns-in-Malformed-clause-answered g c =
    let line = sym c.in-Malformed.is ∙ c.said_of-named.ensures.said in
    let h : Hub = hub_of c.args.self.now in
    let kept = c.args.output.now.items in
    let text = to c.in-Malformed.connection (line_text (codes "malformed")) in
    let says = said_of c.args.self.now.options.connections c.args.line.now in
    let L = λ (s : Said). AnswersSaid s says.name h text 1 h in (
      text,
      1,
      c.print_line_to.new.output.items,
      subst L line (refl, refl, refl),
      writes_printed _ kept text c.print_line_to.new.output.items c.print_line_to.ensures,
      (refl, refl),
    )

pub returns-in-HangsUp-clause-answered : goal.returns-in-HangsUp-clause-answered
returns-in-HangsUp-clause-answered g c =
    let line = sym c.in-HangsUp.is ∙ c.said_of-named.ensures.said in
    let h : Hub = hub_of c.args.self.now in
    let new : Hub = hub_of c.hang_up-outcome.new.self in
    let did = c.hang_up-outcome.ensures.hangs_up in
    let says = said_of c.args.self.now.options.connections c.args.line.now in
    let L = λ (s : Said). AnswersSaid s says.name h did.0 0 new in
    (did.0, 0, did.1, subst L line (did.2, did.3, refl), did.4, rw c.and.ensures (not_malformed _ _ did.5))

pub returns-in-Asks-clause-answered : goal.returns-in-Asks-clause-answered
returns-in-Asks-clause-answered g c =
    let line = sym c.in-Asks.is ∙ c.said_of-named.ensures.said in
    let h : Hub = hub_of c.args.self.now in
    let new : Hub = hub_of c.serve-outcome.new.self in
    let did = c.serve-outcome.ensures.serves in
    let says = said_of c.args.self.now.options.connections c.args.line.now in
    let L = λ (s : Said). AnswersSaid s says.name h did.0 0 new in
    let M = λ (n : List ℕ). AnswersSaid (said.Asks c.in-Asks.connection c.in-Asks.request) n h did.0 0 new in
    (did.0, 0, did.1, subst L line (subst M c.said_of-named.ensures.name (did.2, did.3, refl)), did.4, rw c.and-in-Asks.ensures (not_malformed _ _ did.5))

pub returns-in-HangsUp-clause-numbers : goal.returns-in-HangsUp-clause-numbers
returns-in-HangsUp-clause-numbers g c = keeps_room c.args.self.now.manager c.hang_up-outcome.new.self.manager c.args.numbers.now c.hang_up-outcome.ensures.config c.requires.numbers
