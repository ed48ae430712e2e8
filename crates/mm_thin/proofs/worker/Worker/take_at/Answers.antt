use Rattle.std.proofs.Common.{◌≡◌, ◌<◌, ℕ, List, [], Some, length, set, slice_get, nat_eq, ap, subst, ◌∙◌, arith}
use Rattle.std.proofs.lemmas.Option.{slice_get_within}
use Rattle.std.proofs.lemmas.List.{length-map}
use Rattle.mm_thin.specs.declared.views.RecordView.{RecordView}
use Rattle.mm_thin.specs.Parts.{RecordState, WorkerState}
use Rattle.mm_thin.specs.Calls.{TakesAt}
use Rattle.mm_thin.proofs.Places.{state, seen, at_place, took_used, takes_at, seen_only}
use Rattle.mm_thin.proofs.worker.Worker.take_at.Goals as goal

within : (ps : List RecordState) (rs : List RecordView) (k : ℕ) (r : RecordView) → seen ps ≡ rs → slice_get rs k ≡ Some r → k < length ps
within ps rs k r same is = (let low : k < length (seen ps) = slice_get_within (seen ps) k r (ap (λ xs. slice_get xs k) same ∙ is) in let size : length (seen ps) ≡ length ps = length-map ps (λ (p : RecordState). p.1) in omega arith)

none_taken : (ps : List RecordState) (rs : List RecordView) (k : ℕ) (p : RecordState) (r : RecordView) → seen ps ≡ rs → slice_get rs k ≡ Some r → r.taken ≡ [] → slice_get ps k ≡ Some p → p.1.taken ≡ []
none_taken ps rs k p r same is none at = ap (λ (x : RecordView). x.taken) (seen_only ps k p r at (ap (λ xs. slice_get xs k) same ∙ is)) ∙ none

pub take-word-requires-clause-name : goal.take-word-requires-clause-name
take-word-requires-clause-name c =
    let fits = c.of-bucket.ensures.bytes in
    let bytes = ap (λ (w : WorkerState). w.of.bytes) c.self.view_is in
    let name = c.requires.name in
    omega arith

pub take-word-requires-clause-idle : goal.take-word-requires-clause-idle
take-word-requires-clause-idle c =
    let ps = c.self.inside.places.items in
    let known = ap (λ (w : WorkerState). w.records) c.self.view_is in
    let idle = c.requires.idle in
    let low = within ps c.args.self.now.records c.args.k idle.0 known idle.1 in
    none_taken ps c.args.self.now.records c.args.k c.index_mut.result.now idle.0 known idle.1 idle.2 (at_place ps c.args.k c.index_mut.result.now low c.index_mut.ensures.value)

pub invariant_of-self : goal.invariant_of-self
invariant_of-self c =
    let b = c.self.inside.buckets in
    let ps = c.self.inside.places.items in
    let old = c.index_mut.result.now in
    let new = c.take-word.new.self in
    let known = ap (λ (w : WorkerState). w.records) c.self.view_is in
    let idle = c.requires.idle in
    let low = within ps c.args.self.now.records c.args.k idle.0 known idle.1 in
    let is = at_place ps c.args.k old low c.index_mut.ensures.value in
    let none = none_taken ps c.args.self.now.records c.args.k old idle.0 known idle.1 idle.2 is in
    let took = c.take-word.ensures.takes in
    let table = c.take-word.ensures.table in
    let more = c.used_with-self-inside.ensures in
    took_used b c.self.inside.at ps c.args.k old new is table c.args.name.now c.of-bucket.result c.of-bucket.ensures.bucket none c.take-word.result took c.self.inside.used c.used_with-self-inside.result c.self.invariant more.one more.more more.taken

pub returns : goal.returns
returns c =
    let b = c.self.inside.buckets in
    let ps = c.self.inside.places.items in
    let old = c.index_mut.result.now in
    let new = c.take-word.new.self in
    let known = ap (λ (w : WorkerState). w.records) c.self.view_is in
    let idle = c.requires.idle in
    let low = within ps c.args.self.now.records c.args.k idle.0 known idle.1 in
    let is = at_place ps c.args.k old low c.index_mut.ensures.value in
    let none = none_taken ps c.args.self.now.records c.args.k old idle.0 known idle.1 idle.2 is in
    subst (λ (w : WorkerState). TakesAt w c.args.k c.args.name.now (nat_eq c.take-word.result 0) (state b c.self.inside.at (set ps c.args.k new))) c.self.view_is
    (takes_at b c.self.inside.at ps c.args.k old new is c.take-word.ensures.table c.args.name.now c.of-bucket.result c.of-bucket.ensures.bucket none (nat_eq c.take-word.result 0) c.take-word.ensures.takes)
