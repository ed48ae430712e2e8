use Rattle.std.proofs.Common.{◌∙◌, ℕ, ap, subst}
use Rattle.mm_desk.specs.Calls.{AsksAt}
use Rattle.mm_desk.specs.Desk.{DeskState}
use Rattle.mm_thin.specs.Parts.{WorkerState}
use Rattle.pashkure.specs.Hall.{HallState}
use Rattle.pashkure.proofs.Behind.{kept_worker, lent_hall, lent_worker}
use Rattle.pashkure.proofs.desk_calls.pashkure_desk_ask.Goals as goal

pub returns-clause-worker : goal.returns-clause-worker
returns-clause-worker c = kept_worker _ _ _ c.is_open-else-not-is_open.ensures.same c.worker.ensures.value

pub returns-clause-asks : goal.returns-clause-asks
returns-clause-asks c = λ _ _.
    let hall = c.behind-desk.view_is ∙ lent_hall _ _ _ c.is_open.ensures.same c.hall.ensures.value in
    let at = c.at-at.ensures ∙ ap (λ (w : WorkerState). w.at) (lent_worker _ _ _ c.is_open-else-not-is_open.ensures.same c.worker.ensures.value) in
    let asks = subst (λ (n : ℕ). AsksAt c.behind-desk.inside.desk n c.args.name.now c.ask.result c.ask.new.self) at c.ask.ensures in
    (c.ask.result, c.of_asked.ensures, subst (λ (d : DeskState). AsksAt d c.args.worker.now.held.at c.args.name.now c.ask.result c.ask.new.self) (ap (λ (h : HallState). h.desk) hall) asks, ap (λ (h : HallState). h.room) hall)
