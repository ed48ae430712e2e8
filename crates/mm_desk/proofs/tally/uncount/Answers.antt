use Rattle.std.proofs.Common.{◌≡◌, ◌<◌, None, length, set, subst, arith}
use Rattle.mm_desk.specs.Tally.{IsCut}
use Rattle.mm_desk.proofs.Counts.{count_is}
use Rattle.mm_desk.proofs.Cuts.{cut_none, cut_ready, cut_next}
use Rattle.mm_desk.proofs.tally.uncount.Goals as goal

pub loop-k-init : goal.loop-k-init
loop-k-init c = (c.args.manager.now.names.names, cut_none c.args.manager.now.names.names c.args.numbers.now.items, c.requires.counted)

pub uncount_one-requires : goal.uncount_one-requires
uncount_one-requires c =
    let size = c.len-k-end.ensures in
    let test = c.loop-k-test.true in
    let low : c.loop-k.k < length c.args.numbers.now.items = omega arith in
    let is = count_is c.args.numbers.now.items c.loop-k.k c.index.result.now low c.index.ensures in
    let inv = c.loop-k.invariant in
    let ready = cut_ready c.args.manager.now.names.names c.args.numbers.now.items c.requires.once c.requires.inside c.loop-k.k low inv.0 c.index.result.now is inv.1 in
    (inv.0, inv.2, ready.0, ready.1)

pub loop-k-preserved : goal.loop-k-preserved
loop-k-preserved c =
    let size = c.len-k-end.ensures in
    let test = c.loop-k-test.true in
    let low : c.loop-k.k < length c.args.numbers.now.items = omega arith in
    let is = count_is c.args.numbers.now.items c.loop-k.k c.index.result.now low c.index.ensures in
    let inv = c.loop-k.invariant in
    let ready = cut_ready c.args.manager.now.names.names c.args.numbers.now.items c.requires.once c.requires.inside c.loop-k.k low inv.0 c.index.result.now is inv.1 in
    (set inv.0 c.index.result.now None, cut_next c.args.manager.now.names.names c.args.numbers.now.items c.requires.once c.requires.inside c.loop-k.k low inv.0 c.index.result.now is inv.1, c.uncount_one.ensures inv.0 inv.2 ready.0 ready.1)

pub returns : goal.returns
returns c =
    let size = c.len-k-end.ensures in
    let test = c.loop-k-test.false in
    let end = c.loop-k.auto.k-end in
    let all : c.loop-k.k ≡ length c.args.numbers.now.items = omega arith in
    let inv = c.loop-k.invariant in
    (inv.0, subst (λ k. IsCut c.args.manager.now.names.names c.args.numbers.now.items k inv.0) all inv.1, inv.2)
