use Rattle.std.proofs.Common.{None, length, arith, sym, ap, ◌∙◌, length-set}
use Rattle.std.proofs.lemmas.List.{take_at}
use Rattle.mm_tagged_lists.specs.TaggedLists.{freed}
use Rattle.mm_tagged_lists.proofs.Lemmas.ListsMatchSpots.{list_in_range, in_its_list, freed_unlisted}
use Rattle.mm_tagged_lists.proofs.Lemmas.Linked.{length-firsts, first_is}
use Rattle.mm_tagged_lists.proofs.Lemmas.Freed.{before_in_range, next_in_range, AreLinked-freed}
use Rattle.mm_tagged_lists.proofs.Lemmas.Items.{links_now, length-links_of, read_links, join_links, join_spots, shown_written}
use Rattle.mm_tagged_lists.proofs.tagged_lists.TaggedLists.remove.Goals as goal

pub returns-in_default : goal.returns-in_default
returns-in_default c =
    let linked = links_now _ _ c.self.inside.items.items c.self.view_is c.self.invariant in
    sym (freed_unlisted c.args.self.now c.args.item linked.matched (sym c.spot.ensures.spot ∙ c.in_default.is))

pub index_mut-requires-2 : goal.index_mut-requires-2
index_mut-requires-2 c =
    let linked = links_now _ _ c.self.inside.items.items c.self.view_is c.self.invariant in
    let there = in_its_list c.args.self.now linked.matched c.args.item c.in-Some.spot (sym c.spot.ensures.spot ∙ c.in-Some.is) in
    omega (arith, length-firsts _ _ _ linked, list_in_range c.args.self.now c.in-Some.spot.list c.args.item there)

pub set_next-requires : goal.set_next-requires
set_next-requires c =
    let rs = c.self.inside.items.items in
    let linked = links_now _ _ rs c.self.view_is c.self.invariant in
    let placed = sym c.spot.ensures.spot ∙ c.in-Some.is in
    let read = read_links rs c.args.item _ _ (c.replace-was.ensures.value ∙ c.index_mut.ensures.value) in
    let same = ap length c.deref_mut.ensures.value ∙ length-set rs c.args.item c.replace-was.new.dest in
    λ q is. omega (arith, length-links_of rs, before_in_range _ c.in-Some.spot c.args.item c.requires _ _ linked placed c.replace-was.result.links _ read q is)

pub set_before-requires : goal.set_before-requires
set_before-requires c =
    let rs = c.self.inside.items.items in
    let linked = links_now _ _ rs c.self.view_is c.self.invariant in
    let placed = sym c.spot.ensures.spot ∙ c.in-Some.is in
    let read = read_links rs c.args.item _ _ (c.replace-was.ensures.value ∙ c.index_mut.ensures.value) in
    λ q is. omega (arith, length-links_of rs, next_in_range _ c.in-Some.spot c.args.item c.requires _ _ linked placed c.replace-was.result.links _ read q is)

pub invariant_of-self : goal.invariant_of-self
invariant_of-self c =
    let inside = c.self.inside in
    let rs = inside.items.items in
    let was = c.replace-was.result in
    let linked = links_now _ _ rs c.self.view_is c.self.invariant in
    let placed = sym c.spot.ensures.spot ∙ c.in-Some.is in
    let below = list_in_range c.args.self.now c.in-Some.spot.list c.args.item (in_its_list c.args.self.now linked.matched c.args.item c.in-Some.spot placed) in
    let read = read_links rs c.args.item was c.index_mut.result.now (c.replace-was.ensures.value ∙ c.index_mut.ensures.value) in
    let first = first_is _ _ _ linked c.in-Some.spot.list _ _ below c.index_mut-2.ensures.value in
    let back = c.deref_mut-2.ensures.value ∙ take_at c.set_next.new.items _ _ (omega arith) in
    let links = join_links rs c.deref_mut.result.now c.set_next.new.items c.deref_mut-2.result.now c.set_before.new.items c.args.item c.replace-was.new.dest c.deref_mut.ensures.value c.replace-was.ensures.after back was.links c.set_next.ensures.links c.set_before.ensures.links in
    let spots = join_spots rs c.deref_mut.result.now c.set_next.new.items c.deref_mut-2.result.now c.set_before.new.items c.args.item c.replace-was.new.dest c.deref_mut.ensures.value c.replace-was.ensures.after back c.args.self.now inside.firsts.items c.self.view_is c.set_next.ensures.spots c.set_before.ensures.spots in
    let after = AreLinked-freed _ c.in-Some.spot c.args.item c.requires _ _ linked placed was.links _ read _ _ _ first c.set_next.ensures.first links in
    (shown_written (freed c.args.self.now c.args.item) _ _ c.set_before.new.items _ (omega (arith, linked.size, length-links_of rs, length-set c.args.self.now.spots c.args.item None)) after spots).kept

pub returns : goal.returns
returns c =
    let inside = c.self.inside in
    let rs = inside.items.items in
    let was = c.replace-was.result in
    let linked = links_now _ _ rs c.self.view_is c.self.invariant in
    let placed = sym c.spot.ensures.spot ∙ c.in-Some.is in
    let below = list_in_range c.args.self.now c.in-Some.spot.list c.args.item (in_its_list c.args.self.now linked.matched c.args.item c.in-Some.spot placed) in
    let read = read_links rs c.args.item was c.index_mut.result.now (c.replace-was.ensures.value ∙ c.index_mut.ensures.value) in
    let first = first_is _ _ _ linked c.in-Some.spot.list _ _ below c.index_mut-2.ensures.value in
    let back = c.deref_mut-2.ensures.value ∙ take_at c.set_next.new.items _ _ (omega arith) in
    let links = join_links rs c.deref_mut.result.now c.set_next.new.items c.deref_mut-2.result.now c.set_before.new.items c.args.item c.replace-was.new.dest c.deref_mut.ensures.value c.replace-was.ensures.after back was.links c.set_next.ensures.links c.set_before.ensures.links in
    let spots = join_spots rs c.deref_mut.result.now c.set_next.new.items c.deref_mut-2.result.now c.set_before.new.items c.args.item c.replace-was.new.dest c.deref_mut.ensures.value c.replace-was.ensures.after back c.args.self.now inside.firsts.items c.self.view_is c.set_next.ensures.spots c.set_before.ensures.spots in
    let after = AreLinked-freed _ c.in-Some.spot c.args.item c.requires _ _ linked placed was.links _ read _ _ _ first c.set_next.ensures.first links in
    (shown_written (freed c.args.self.now c.args.item) _ _ c.set_before.new.items _ (omega (arith, linked.size, length-links_of rs, length-set c.args.self.now.spots c.args.item None)) after spots).is
