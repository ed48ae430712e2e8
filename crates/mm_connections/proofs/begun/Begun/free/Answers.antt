use Rattle.std.proofs.Common.{◌≡◌, ◌∙◌, ◌<◌, ap, sym, subst, None, length, length-set}
use Rattle.std.proofs.Math.ListN.{length-map}
use Rattle.mm_lists.specs.Members.{without}
use Rattle.mm_tagged_lists.specs.TaggedLists.{Listing, ListsMatchSpots}
use Rattle.mm_tagged_lists.proofs.Lemmas.ListsMatchSpots.{freed_matches}
use Rattle.mm_connections.proofs.begun.Begun.free.Goals as goal

pub invariant_of-self : goal.invariant_of-self
invariant_of-self c =
    let b = c.self.inside.lists in
    let p = c.args.process in
    let within = subst (λ (o : Listing). p < length o.spots) (sym c.self.view_is) c.requires in
    let lists : length c.remove.new.self.lists ≡ length b.lists = ap (λ (o : Listing). length o.lists) c.remove.ensures ∙ length-map b.lists (without p) in
    let spots : length c.remove.new.self.spots ≡ length b.spots = ap (λ (o : Listing). length o.spots) c.remove.ensures ∙ length-set b.spots p None in
    (c.self.invariant.0 ∙ sym lists, c.self.invariant.1 ∙ sym spots, subst (λ (o : Listing). ListsMatchSpots o) (sym c.remove.ensures) (freed_matches b p within c.self.invariant.2))
