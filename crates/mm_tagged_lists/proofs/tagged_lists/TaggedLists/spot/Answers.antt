use Rattle.std.proofs.Common.{◌≡◌, ◌<◌, None, length, arith, ap, sym, ◌∙◌}
use Rattle.std.proofs.lemmas.List.{get_or-map}
use Rattle.mm_tagged_lists.specs.declared.tagged_lists.Item.{Item}
use Rattle.mm_tagged_lists.specs.TaggedLists.{spot_at}
use Rattle.mm_tagged_lists.proofs.Lemmas.ListsMatchSpots.{spot_in_range}
use Rattle.mm_tagged_lists.proofs.Lemmas.Items.{links_now, length-links_of}
use Rattle.mm_tagged_lists.proofs.tagged_lists.TaggedLists.spot.Goals as goal

pub returns-clause-in_range : goal.returns-clause-in_range
returns-clause-in_range c =
    let rs = c.self.inside.items.items in
    let linked = links_now _ _ rs c.self.view_is c.self.invariant in
    let within : c.args.item < length rs = omega (arith, linked.size, length-links_of rs, c.requires) in
    let is : c.get.result ≡ spot_at c.args.self.now c.args.item =
    c.get.ensures ∙ ap (λ (r : Item). r.spot) c.index.ensures
    ∙ sym (get_or-map (λ (r : Item). r.spot) rs c.args.item c.index.result.now None within) ∙ ap (λ o. spot_at o c.args.item) c.self.view_is in
    spot_in_range c.args.self.now linked.matched c.args.item c.get.result is
