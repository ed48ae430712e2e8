use Rattle.std.proofs.Common.{◌≡◌, ◌<◌, ◌+◌, ℕ, List, Some, slice_get, sym, ap, subst, arith}
use Rattle.mm_thin.specs.declared.views.RecordView.{RecordView}
use Rattle.mm_thin.specs.Parts.{WorkerState}
use Rattle.mm_thin.specs.Calls.{IsFor}
use Rattle.mm_thin.proofs.Places.{one_more, none_of_used}
use Rattle.mm_thin.proofs.worker.Worker.find.Goals as goal

pub loop-k-preserved : goal.loop-k-preserved
loop-k-preserved c =
    let known = ap (λ (w : WorkerState). w.records) c.self.view_is in
    let low = c.loop-k-test.true in
    let full = c.self.invariant.full in
    let within = c.self.invariant.within in
    let not_here : IsFor c.index.result.now.1 c.args.name.now → ⊥ = λ so. (let never = c.is_for.ensures.1 so in let no = c.if-is_for.false in absurd (grind (arith))) in
    subst (λ (rs : List RecordView). (j : ℕ) (r : RecordView) → j < c.loop-k.k + 1 → slice_get rs j ≡ Some r → IsFor r c.args.name.now → ⊥) known
    (one_more (λ (r : RecordView). IsFor r c.args.name.now) c.self.inside.places.items c.loop-k.k c.index.result.now (omega arith) c.index.ensures
    (subst (λ (rs : List RecordView). (j : ℕ) (r : RecordView) → j < c.loop-k.k → slice_get rs j ≡ Some r → IsFor r c.args.name.now → ⊥) (sym known) c.loop-k.invariant) not_here)

pub returns-clause-none : goal.returns-clause-none
returns-clause-none c has =
    let known = ap (λ (w : WorkerState). w.records) c.self.view_is in
    let all = c.loop-k-test.false in
    none_of_used c.self.inside.buckets c.self.inside.at c.self.inside.places.items c.self.inside.used c.loop-k.k c.args.name.now c.self.invariant (omega arith)
    (subst (λ (rs : List RecordView). (j : ℕ) (r : RecordView) → j < c.loop-k.k → slice_get rs j ≡ Some r → IsFor r c.args.name.now → ⊥) (sym known) c.loop-k.invariant)
    has.0 has.1 (subst (λ (rs : List RecordView). slice_get rs has.0 ≡ Some has.1) (sym known) has.2) has.3
