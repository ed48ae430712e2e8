use Rattle.std.proofs.Common.{◌+◌, ℕ, List, Option, set, sym, subst, arith}
use Rattle.mm_desk.specs.Books.{AreCounted}
use Rattle.mm_desk.proofs.Counts.{count_is, count_more, few}
use Rattle.mm_desk.proofs.tally.recount_one.Goals as goal

pub overflow_add-index_mut : goal.overflow_add-index_mut
overflow_add-index_mut c =
    let r = c.requires.some in
    let counted = r.1 in
    let blow = c.of-bucket.ensures.low in
    let size = counted.0 in
    let v = count_is c.args.counts.now.items c.of-bucket.result c.index_mut.result.now (omega arith) c.index_mut.ensures.value in
    let most = few c.args.spread c.of-bucket.result r.0 in
    let small = r.3 in
    let is = counted.1 c.of-bucket.result blow in
    omega arith

pub returns-in-Some : goal.returns-in-Some
returns-in-Some c mid counted low none =
    let blow = c.of-bucket.ensures.low in
    let size = counted.0 in
    let v = count_is c.args.counts.now.items c.of-bucket.result c.index_mut.result.now (omega arith) c.index_mut.ensures.value in
    subst (λ (x : ℕ × Option (List ℕ)). AreCounted c.args.spread (set mid c.args.number x.1) (set c.args.counts.now.items c.of-bucket.result (x.0 + 1))) (λ i. (sym v i, c.in-Some.ensures i))
    (count_more c.args.spread mid c.args.counts.now.items counted c.args.number low c.in-Some.name.now c.of-bucket.result c.of-bucket.ensures.bucket blow none)
