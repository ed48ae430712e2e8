use Rattle.std.proofs.Common.{◌-◌, None, set, sym, ◌∙◌, subst, arith}
use Rattle.mm_desk.specs.Books.{AreCounted}
use Rattle.mm_desk.proofs.Counts.{count_is, count_less, counted_name}
use Rattle.mm_desk.proofs.tally.uncount_one.Goals as goal

pub overflow_sub-index_mut : goal.overflow_sub-index_mut
overflow_sub-index_mut c =
    let counted = c.requires.1 in
    let blow = c.of-bucket.ensures.low in
    let size = counted.0 in
    let v = count_is c.args.counts.now.items c.of-bucket.result c.index_mut.result.now (omega arith) c.index_mut.ensures.value in
    let some = counted_name c.args.spread c.requires.0 c.args.number c.in-Some.name.now c.of-bucket.result (c.requires.3 ∙ sym c.in-Some.ensures) (sym c.of-bucket.ensures.bucket) in
    let is = counted.1 c.of-bucket.result blow in
    omega arith

pub returns-in-Some : goal.returns-in-Some
returns-in-Some c mid counted low is =
    let blow = c.of-bucket.ensures.low in
    let size = counted.0 in
    let v = count_is c.args.counts.now.items c.of-bucket.result c.index_mut.result.now (omega arith) c.index_mut.ensures.value in
    subst (λ n. AreCounted c.args.spread (set mid c.args.number None) (set c.args.counts.now.items c.of-bucket.result (n - 1))) (sym v)
    (count_less c.args.spread mid c.args.counts.now.items counted c.args.number low c.in-Some.name.now c.of-bucket.result c.of-bucket.ensures.bucket blow (is ∙ sym c.in-Some.ensures))
