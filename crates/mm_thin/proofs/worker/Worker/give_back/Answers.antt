use Rattle.std.proofs.Common.{subst, arith, set}
use Rattle.mm_thin.specs.Parts.{WorkerState}
use Rattle.mm_thin.specs.Calls.{LeavesName}
use Rattle.mm_thin.proofs.Places.{state, at_place, left_used, leaves_name}
use Rattle.mm_thin.proofs.worker.Worker.give_back.Goals as goal

pub invariant_of-self : goal.invariant_of-self
invariant_of-self c =
    let b = c.self.inside.buckets in
    let ps = c.self.inside.places.items in
    let old = c.index_mut.result.now in
    let new = c.give_back-given.new.self in
    let size = c.len.ensures in
    let low = c.if-k-len.false in
    let is = at_place ps c.args.k old (omega arith) c.index_mut.ensures.value in
    let left = c.give_back-given.ensures.leaves in
    let table = c.give_back-given.ensures.table in
    left_used b c.self.inside.at ps c.args.k old new is table c.give_back-given.result left c.self.inside.used c.used_without-self-inside.result c.self.invariant c.used_without-self-inside.ensures

pub returns : goal.returns
returns c =
    let b = c.self.inside.buckets in
    let ps = c.self.inside.places.items in
    let old = c.index_mut.result.now in
    let new = c.give_back-given.new.self in
    let size = c.len.ensures in
    let low = c.if-k-len.false in
    let is = at_place ps c.args.k old (omega arith) c.index_mut.ensures.value in
    subst (λ (w : WorkerState). LeavesName w c.args.k c.give_back-given.result (state b c.self.inside.at (set ps c.args.k new))) c.self.view_is
    (leaves_name b c.self.inside.at ps c.args.k old new is c.give_back-given.ensures.table c.give_back-given.result c.give_back-given.ensures.leaves)
