use Rattle.std.proofs.Common.{◌≡◌, [], Some, slice_get, subst, arith}
use Rattle.mm_thin.specs.declared.views.RecordView.{RecordView}
use Rattle.mm_thin.specs.Parts.{WorkerState}
use Rattle.mm_thin.proofs.Places.{idle_at}
use Rattle.mm_thin.proofs.worker.Worker.idle.Goals as goal

pub returns-then-self-lt-PLACES-clause-some : goal.returns-then-self-lt-PLACES-clause-some
returns-then-self-lt-PLACES-clause-some c =
    let low = c.if-self-lt-PLACES.true in
    subst (λ (w : WorkerState). (r : RecordView) × (slice_get w.records c.self.inside.used ≡ Some r) × (r.taken ≡ [])) c.self.view_is
    (idle_at c.self.inside.buckets c.self.inside.at c.self.inside.places.items c.self.inside.used c.self.invariant (omega arith))
