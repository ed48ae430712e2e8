use Rattle.std.specs.Prelude.{slice_get, Some}
use Rattle.std.proofs.Common.{◌≡◌, ap, subst, arith}
use Rattle.mm_thin.specs.declared.views.DeskView.{DeskView}
use Rattle.mm_thin.specs.declared.views.RecordView.{RecordView}
use Rattle.mm_thin.specs.Parts.{OfficeState, WorkerState, IsOfWorker, IsPlaced}
use Rattle.mm_thin.specs.Calls.{AreLent}
use Rattle.mm_thin.proofs.Places.{found, past, still_used, placed_seen}
use Rattle.mm_thin.proofs.worker.Worker.look_at_office.Goals as goal

pub invariant_of-self : goal.invariant_of-self
invariant_of-self c =
    let size = c.len.ensures in
    let low = c.if-k-len.false in
    still_used c.self.inside.buckets c.self.inside.at c.self.inside.places.items c.args.k c.self.inside.used c.index_mut.result.now c.look_at_desk.new.self (omega arith) c.index_mut.ensures.value c.look_at_desk.ensures.one c.self.invariant

pub returns-clause-lent : goal.returns-clause-lent
returns-clause-lent c r at =
    let size = c.len.ensures in
    let low = c.if-k-len.false in
    let is = found c.self.inside.places.items c.args.self.now.records c.args.k (ap (λ (w : WorkerState). w.records) c.self.view_is) c.index_mut.result.now r (omega arith) c.index_mut.ensures.value at in
    subst (λ (x : RecordView × DeskView). AreLent x.0 x.1) (λ i. (is i, ap (λ (o : OfficeState). o.desk) c.office.view_is i)) c.look_at_desk.ensures.lent

pub returns-then-k-len-clause-lent : goal.returns-then-k-len-clause-lent
returns-then-k-len-clause-lent c r at b taken fat =
    let size = c.len.ensures in
    let high = c.if-k-len.true in
    absurd (past c.self.inside.places.items c.args.self.now.records c.args.k (ap (λ (w : WorkerState). w.records) c.self.view_is) r (omega arith) at)

pub returns-clause-placed : goal.returns-clause-placed
returns-clause-placed c =
    subst (λ (w : WorkerState). (r : RecordView) → slice_get w.records c.args.k ≡ Some r → IsOfWorker w.at r.number × IsPlaced w.of r) c.self.view_is
    (λ r at. placed_seen c.self.inside.buckets c.self.inside.at c.self.inside.places.items c.args.k r c.self.invariant.placed at)

pub returns-then-k-len-clause-placed : goal.returns-then-k-len-clause-placed
returns-then-k-len-clause-placed c =
    subst (λ (w : WorkerState). (r : RecordView) → slice_get w.records c.args.k ≡ Some r → IsOfWorker w.at r.number × IsPlaced w.of r) c.self.view_is
    (λ r at. placed_seen c.self.inside.buckets c.self.inside.at c.self.inside.places.items c.args.k r c.self.invariant.placed at)
