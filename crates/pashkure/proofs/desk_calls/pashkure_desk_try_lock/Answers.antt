use Rattle.std.proofs.Common.{◌∙◌, ℕ, ap, subst}
use Rattle.mm_desk.specs.Calls.{TriesAt}
use Rattle.mm_desk.specs.Desk.{DeskState}
use Rattle.mm_thin.specs.Parts.{WorkerState}
use Rattle.pashkure.specs.Hall.{HallState}
use Rattle.pashkure.proofs.Behind.{kept_worker, lent_hall, lent_worker}
use Rattle.pashkure.proofs.desk_calls.pashkure_desk_try_lock.Goals as goal

pub returns-clause-worker : goal.returns-clause-worker
returns-clause-worker c = kept_worker _ _ _ c.is_open-else-not-is_open.ensures.same c.worker.ensures.value

pub returns-clause-tries : goal.returns-clause-tries
returns-clause-tries c = λ _ _.
    let hall = c.behind-desk.view_is ∙ lent_hall _ _ _ c.is_open.ensures.same c.hall.ensures.value in
    let at = c.at-at.ensures ∙ ap (λ (w : WorkerState). w.at) (lent_worker _ _ _ c.is_open-else-not-is_open.ensures.same c.worker.ensures.value) in
    let tries = subst (λ (n : ℕ). TriesAt c.behind-desk.inside.desk n c.args.name.now c.try_lock.result c.try_lock.new.self) at c.try_lock.ensures in
    (c.try_lock.result, c.of_tried.ensures, subst (λ (d : DeskState). TriesAt d c.args.worker.now.held.at c.args.name.now c.try_lock.result c.try_lock.new.self) (ap (λ (h : HallState). h.desk) hall) tries, ap (λ (h : HallState). h.room) hall)
