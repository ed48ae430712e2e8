use Rattle.std.proofs.Common.{◌≡◌, ◌<◌, ◌+◌, ℕ, List, [], Some, slice_get, sym, ap, subst, arith}
use Rattle.mm_thin.specs.declared.views.RecordView.{RecordView}
use Rattle.mm_thin.specs.Parts.{WorkerState}
use Rattle.mm_thin.proofs.Places.{one_more, none_of_all}
use Rattle.mm_thin.proofs.worker.Worker.idle_below.Goals as goal

pub loop-k-preserved : goal.loop-k-preserved
loop-k-preserved c =
    let known = ap (λ (w : WorkerState). w.records) c.self.view_is in
    let size = c.len-k-end.ensures in
    let low = c.loop-k-test.true in
    let not_here : c.index.result.now.1.taken ≡ [] → ⊥ = λ so. (let never = c.is_idle.ensures.1 so in let no = c.if-is_idle.false in absurd (grind (arith))) in
    subst (λ (rs : List RecordView). (j : ℕ) (r : RecordView) → j < c.loop-k.k + 1 → slice_get rs j ≡ Some r → r.taken ≡ [] → ⊥) known
    (one_more (λ (r : RecordView). r.taken ≡ []) c.self.inside.places.items c.loop-k.k c.index.result.now (omega arith) c.index.ensures
    (subst (λ (rs : List RecordView). (j : ℕ) (r : RecordView) → j < c.loop-k.k → slice_get rs j ≡ Some r → r.taken ≡ [] → ⊥) (sym known) c.loop-k.invariant) not_here)

pub returns-clause-none : goal.returns-clause-none
returns-clause-none c k r at =
    let known = ap (λ (w : WorkerState). w.records) c.self.view_is in
    let size = c.len-k-end.ensures in
    let all = c.loop-k-test.false in
    none_of_all (λ (r : RecordView). r.taken ≡ []) c.self.inside.places.items c.loop-k.k (omega arith)
    (subst (λ (rs : List RecordView). (j : ℕ) (r : RecordView) → j < c.loop-k.k → slice_get rs j ≡ Some r → r.taken ≡ [] → ⊥) (sym known) c.loop-k.invariant)
    k r (subst (λ (rs : List RecordView). slice_get rs k ≡ Some r) (sym known) at)
