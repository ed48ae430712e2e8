use Rattle.std.proofs.Common.{◌≡◌, refl, ap, ◌∙◌, arith}
use Rattle.std.proofs.Math.ListN.{replicate}
use Rattle.mm_desk.proofs.Names.{opened_books}
use Rattle.mm_desk.proofs.opening.open_books.Goals as goal

pub returns : goal.returns
returns c =
    let len = c.in_ok-counts.ensures.len in
    let size = c.buckets.ensures in
    let zeros = c.in_ok-counts.ensures.items_if_clones_equal (λ y is. is) ∙ ap (λ n. replicate n 0) size in
    let buckets : c.buckets.result ≡ c.args.spread.buckets = size in
    ((opened_books c.requires.0 c.args.spread c.args.manager c.in_ok-counts.counts.items c.requires.1 zeros (omega arith)).1, refl)
