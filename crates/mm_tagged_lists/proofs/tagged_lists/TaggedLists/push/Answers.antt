use Rattle.std.proofs.Common.{Some, sym, arith, ap, ◌∙◌, refl, length, length-set}
use Rattle.mm_tagged_lists.specs.TaggedLists.{given}
use Rattle.mm_tagged_lists.proofs.Lemmas.Linked.{first_is, first_in_range}
use Rattle.mm_tagged_lists.proofs.Lemmas.Given.{AreLinked-given}
use Rattle.mm_tagged_lists.proofs.Lemmas.Items.{links_now, length-links_of, put_links, put_spots, shown_written}
use Rattle.mm_tagged_lists.proofs.tagged_lists.TaggedLists.push.Goals as goal

pub set_before-requires : goal.set_before-requires
set_before-requires c =
    let inside = c.self.inside in
    let linked = links_now _ _ inside.items.items c.self.view_is c.self.invariant in
    let next = first_is _ _ _ linked c.args.spot.list _ _ c.requires.list_in_range (c.replace-next.ensures.value ∙ c.index_mut-first.ensures.value) in
    let many = length-links_of inside.items.items in
    let same = ap length c.deref_mut.ensures.value ∙ length-set inside.items.items c.args.item _ in
    λ q is. omega (arith, first_in_range _ _ _ linked c.args.spot.list q (sym next ∙ is))

pub invariant_of-self : goal.invariant_of-self
invariant_of-self c =
    let inside = c.self.inside in
    let linked = links_now _ _ inside.items.items c.self.view_is c.self.invariant in
    let next = first_is _ _ _ linked c.args.spot.list _ _ c.requires.list_in_range (c.replace-next.ensures.value ∙ c.index_mut-first.ensures.value) in
    let put = c.deref_mut.ensures.value in
    let links = put_links inside.items.items c.args.item _ c.replace-next.result c.to-link.result c.deref_mut.result.now c.set_before.new.items put c.to-link.ensures c.set_before.ensures.links refl in
    let spots = put_spots c.args.self.now inside.firsts.items inside.items.items c.args.item _ (Some c.args.spot) c.deref_mut.result.now c.set_before.new.items c.self.view_is put c.of-kept.ensures c.set_before.ensures.spots in
    let after = AreLinked-given _ c.args.spot c.args.item c.requires.list_in_range c.requires.item_in_range c.requires.unlisted _ _ linked _ _ _ next (c.replace-next.ensures.after ∙ c.to-link.ensures) links in
    (shown_written (given c.args.self.now c.args.spot c.args.item) _ _ c.set_before.new.items _ (omega (arith, linked.size, length-links_of inside.items.items, length-set c.args.self.now.spots c.args.item (Some c.args.spot))) after spots).kept

pub returns : goal.returns
returns c =
    let inside = c.self.inside in
    let linked = links_now _ _ inside.items.items c.self.view_is c.self.invariant in
    let next = first_is _ _ _ linked c.args.spot.list _ _ c.requires.list_in_range (c.replace-next.ensures.value ∙ c.index_mut-first.ensures.value) in
    let put = c.deref_mut.ensures.value in
    let links = put_links inside.items.items c.args.item _ c.replace-next.result c.to-link.result c.deref_mut.result.now c.set_before.new.items put c.to-link.ensures c.set_before.ensures.links refl in
    let spots = put_spots c.args.self.now inside.firsts.items inside.items.items c.args.item _ (Some c.args.spot) c.deref_mut.result.now c.set_before.new.items c.self.view_is put c.of-kept.ensures c.set_before.ensures.spots in
    let after = AreLinked-given _ c.args.spot c.args.item c.requires.list_in_range c.requires.item_in_range c.requires.unlisted _ _ linked _ _ _ next (c.replace-next.ensures.after ∙ c.to-link.ensures) links in
    (shown_written (given c.args.self.now c.args.spot c.args.item) _ _ c.set_before.new.items _ (omega (arith, linked.size, length-links_of inside.items.items, length-set c.args.self.now.spots c.args.item (Some c.args.spot))) after spots).is
