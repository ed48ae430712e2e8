use Rattle.std.proofs.Common.{◌≡◌, ◌<◌, length, set, subst, arith}
use Rattle.mm_desk.specs.Books.{AreCounted}
use Rattle.mm_desk.specs.Tally.{IsMended}
use Rattle.mm_desk.proofs.Counts.{count_is}
use Rattle.mm_desk.specs.Tally.{name_at}
use Rattle.mm_desk.proofs.Cuts.{mend_ready, mend_next, mended_all}
use Rattle.mm_desk.proofs.tally.recount.Goals as goal

pub recount_one-requires : goal.recount_one-requires
recount_one-requires c =
    let size = c.len-k-end.ensures in
    let test = c.loop-k-test.true in
    let low : c.loop-k.k < length c.args.numbers.now.items = omega arith in
    let is = count_is c.args.numbers.now.items c.loop-k.k c.index.result.now low c.index.ensures in
    let inv = c.loop-k.invariant in
    let ready = mend_ready c.args.manager.now.names.names c.args.numbers.now.items c.requires.once c.requires.inside c.loop-k.k low inv.0 c.index.result.now is inv.1 in
    let most = c.requires.few in
    let same = inv.1.size in
    record { some = (inv.0, inv.2, ready.0, omega arith, ready.1) }

pub loop-k-preserved : goal.loop-k-preserved
loop-k-preserved c =
    let size = c.len-k-end.ensures in
    let test = c.loop-k-test.true in
    let low : c.loop-k.k < length c.args.numbers.now.items = omega arith in
    let is = count_is c.args.numbers.now.items c.loop-k.k c.index.result.now low c.index.ensures in
    let inv = c.loop-k.invariant in
    let ready = mend_ready c.args.manager.now.names.names c.args.numbers.now.items c.requires.once c.requires.inside c.loop-k.k low inv.0 c.index.result.now is inv.1 in
    (set inv.0 c.index.result.now (name_at c.args.manager.now.names.names c.index.result.now), mend_next c.args.manager.now.names.names c.args.numbers.now.items c.requires.once c.requires.inside c.loop-k.k low inv.0 c.index.result.now is inv.1, c.recount_one.ensures inv.0 inv.2 ready.0 ready.1)

pub returns : goal.returns
returns c =
    let size = c.len-k-end.ensures in
    let test = c.loop-k-test.false in
    let end = c.loop-k.auto.k-end in
    let all : c.loop-k.k ≡ length c.args.numbers.now.items = omega arith in
    let inv = c.loop-k.invariant in
    subst (λ names. AreCounted c.args.spread names c.loop-k.counts.items)
    (mended_all c.args.manager.now.names.names c.args.numbers.now.items inv.0 (subst (λ k. IsMended c.args.manager.now.names.names c.args.numbers.now.items k inv.0) all inv.1)) inv.2
