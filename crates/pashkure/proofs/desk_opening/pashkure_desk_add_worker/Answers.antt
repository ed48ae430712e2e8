use Rattle.std.proofs.Common.{◌≡◌, ◌≢◌, ◌↔◌, ◌∙◌, Result, Ok, Err, inr, refl, sym, ap, subst}
use Rattle.mm_thin.specs.declared.config.WorkerError.{WorkerError}
use Rattle.mm_thin.specs.declared.config.WorkerError.TheVariants.{Full}
use Rattle.mm_thin.specs.Calls.{AddsWorker}
use Rattle.mm_thin.specs.Parts.{OfficeState, WorkerState}
use Rattle.pashkure.specs.Hall.{HallState}
use Rattle.pashkure.proofs.Behind.{lent_hall}
use Rattle.pashkure.proofs.desk_opening.pashkure_desk_add_worker.Goals as goal

-- an office that made a worker was not full
not_full : (o same : OfficeState) → o ≡ same → (answer : Result WorkerState WorkerError) (w : WorkerState) → answer ≡ Ok w → ((answer ≡ Err Full) ↔ (o.workers ≡ o.max_workers)) → same.workers ≢ same.max_workers
not_full o same is answer w made full most = (let never : Ok w ≡ Err Full = sym made ∙ full.1 (subst (λ (x : OfficeState). x.workers ≡ x.max_workers) (sym is) most) in absurd (cc))

-- there is no memory for the box of a worker that was made
pub returns-in-Ok-clause-adds : goal.returns-in-Ok-clause-adds
returns-in-Ok-clause-adds c = λ _ _.
    let hall = c.behind-desk.view_is ∙ lent_hall _ _ _ c.is_open.ensures.same c.hall.ensures.value in
    let office = ap (λ (h : HallState). h.desk.office) hall in
    let lost = subst (λ (o : OfficeState). AddsWorker o c.in-Ok.added c.add_worker.new.self.office) office c.in-Ok.ensures.added in (
      record { manager = c.add_worker.ensures.rest.0 ∙ ap (λ (h : HallState). h.desk.manager) hall; keys = c.add_worker.ensures.rest.1 ∙ ap (λ (h : HallState). h.desk.keys) hall; room = ap (λ (h : HallState). h.room) hall },
      inr (inr (refl, not_full c.behind-desk.inside.desk.office c.args.desk.now.held.desk.office office c.add_worker.result c.in-Ok.added c.in-Ok.is c.add_worker.ensures.full, c.is_open-2.ensures.same, inr (c.in-Ok.added, lost))),
    )
