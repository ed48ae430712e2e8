use Rattle.std.proofs.Common.{ap, subst, arith}
use Rattle.mm_thin.specs.declared.views.RecordView.{RecordView}
use Rattle.mm_thin.specs.Parts.{WorkerState}
use Rattle.mm_thin.specs.Calls.{AreApart}
use Rattle.mm_thin.proofs.Places.{found, still_used}
use Rattle.mm_thin.proofs.worker.Worker.look_at_worker.Goals as goal

pub invariant_of-self : goal.invariant_of-self
invariant_of-self c =
    let size = c.len.ensures in
    let low = c.if-j-len.false in
    still_used c.self.inside.buckets c.self.inside.at c.self.inside.places.items c.args.j c.self.inside.used c.index_mut.result.now c.look_at.new.self (omega arith) c.index_mut.ensures.value c.look_at.ensures.one c.self.invariant

pub invariant_of-other : goal.invariant_of-other
invariant_of-other c =
    let size = c.len-else-j-len.ensures in
    let low = c.if-k-len.false in
    still_used c.other.inside.buckets c.other.inside.at c.other.inside.places.items c.args.k c.other.inside.used c.index_mut-2.result.now c.look_at.new.other (omega arith) c.index_mut-2.ensures.value c.look_at.ensures.other c.other.invariant

pub returns-clause-apart : goal.returns-clause-apart
returns-clause-apart c r q at at' =
    let size = c.len.ensures in
    let low = c.if-j-len.false in
    let size' = c.len-else-j-len.ensures in
    let low' = c.if-k-len.false in
    let one = found c.self.inside.places.items c.args.self.now.records c.args.j (ap (λ (w : WorkerState). w.records) c.self.view_is) c.index_mut.result.now r (omega arith) c.index_mut.ensures.value at in
    let other = found c.other.inside.places.items c.args.other.now.records c.args.k (ap (λ (w : WorkerState). w.records) c.other.view_is) c.index_mut-2.result.now q (omega arith) c.index_mut-2.ensures.value at' in
    subst (λ (x : RecordView × RecordView). AreApart x.0 x.1) (λ i. (one i, other i)) c.look_at.ensures.apart
