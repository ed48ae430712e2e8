use Rattle.std.proofs.Common.{◌≡◌, ◌∙◌, ◌<◌, ◌∷◌, ap, sym, subst, length, length-set, Some, None}
use Rattle.std.proofs.Math.ListN.{length-map}
use Rattle.mm_lists.specs.Members.{without}
use Rattle.mm_tagged_lists.specs.declared.spot.Spot.{Spot}
use Rattle.mm_tagged_lists.specs.TaggedLists.{Listing, ListsMatchSpots, given, freed, list_at}
use Rattle.mm_connections.specs.Begun.{listed}
use Rattle.mm_connections.proofs.Lemmas.Begun.{listed_matches}
use Rattle.mm_connections.proofs.begun.Begun.put.Goals as goal

pub invariant_of-self : goal.invariant_of-self
invariant_of-self c =
    let b = c.self.inside.lists in
    let k = c.args.key in
    let spot : Spot = record { list = c.args.list; tag = k.generation } in
    let is : c.push.new.self ≡ listed b c.args.list k = c.push.ensures ∙ ap (λ (o : Listing). given o spot k.process) c.remove.ensures in
    let lists : length c.push.new.self.lists ≡ length b.lists =
    ap (λ (o : Listing). length o.lists) is ∙ length-set (freed b k.process).lists c.args.list (k.process ∷ list_at (freed b k.process) c.args.list) ∙ length-map b.lists (without k.process) in
    let spots : length c.push.new.self.spots ≡ length b.spots = ap (λ (o : Listing). length o.spots) is ∙ length-set (freed b k.process).spots k.process (Some spot) ∙ length-set b.spots k.process None in
    let list = subst (λ (o : Listing). c.args.list < length o.lists) (sym c.self.view_is) c.requires.list in
    let process = subst (λ (o : Listing). k.process < length o.spots) (sym c.self.view_is) c.requires.process in
    (c.self.invariant.0 ∙ sym lists, c.self.invariant.1 ∙ sym spots, subst (λ (o : Listing). ListsMatchSpots o) (sym is) (listed_matches b c.args.list k process c.self.invariant.2 list))
