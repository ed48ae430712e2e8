use Rattle.std.proofs.Common.{◌≡◌, sym, ap, ◌∙◌, slice_set}
use Rattle.mm_tagged_lists.specs.private.Path.{freed_in}
use Rattle.mm_tagged_lists.proofs.Lemmas.Path.{left_at_first, below, left_then, fewer_then, all_freed, read_next}
use Rattle.mm_tagged_lists.proofs.tagged_lists.free_from.Goals as goal

pub all-init : goal.all-init
all-init c = record { left = left_at_first c.args.items.now c.args.first c.requires }

pub bounds-items-item : goal.bounds-items-item
bounds-items-item c = below c.args.items.now c.args.first c.all.items c.all.next c.all.invariant.left c.in-Some.item (sym c.get.ensures ∙ c.in-Some.is)

pub all-smaller : goal.all-smaller
all-smaller c =
    let r = c.in-Some.item in
    let is = sym c.get.ensures ∙ c.in-Some.is in
    let then : slice_set c.all.items r c.replace-was.new.dest ≡ freed_in c.all.items r = ap (slice_set c.all.items r) c.replace-was.ensures.after in
    let after = read_next c.all.items r c.replace-was.result c.index-items-item.result (below c.args.items.now c.args.first c.all.items c.all.next c.all.invariant.left r is) c.replace-was.ensures.value in
    fewer_then c.args.items.now c.args.first c.all.items c.all.next c.all.invariant.left r is _ _ then after

pub all-preserved : goal.all-preserved
all-preserved c =
    let r = c.in-Some.item in
    let is = sym c.get.ensures ∙ c.in-Some.is in
    let then : slice_set c.all.items r c.replace-was.new.dest ≡ freed_in c.all.items r = ap (slice_set c.all.items r) c.replace-was.ensures.after in
    let after = read_next c.all.items r c.replace-was.result c.index-items-item.result (below c.args.items.now c.args.first c.all.items c.all.next c.all.invariant.left r is) c.replace-was.ensures.value in
    record { left = left_then c.args.items.now c.args.first c.all.items c.all.next c.all.invariant.left r is _ _ then after }

pub returns : goal.returns
returns c = all_freed c.args.items.now c.args.first c.all.items c.all.next c.all.invariant.left (sym c.get.ensures ∙ c.in_default.is)
