use Rattle.std.proofs.Common.{ap, sym, subst, ◌∙◌}
use Rattle.mm_lists.specs.Members.{Among}
use Rattle.mm_tagged_lists.specs.TaggedLists.{list_at}
use Rattle.mm_tagged_lists.proofs.Lemmas.ListsMatchSpots.{in_range, in_its_list}
use Rattle.mm_tagged_lists.proofs.Lemmas.Walk.{rest_from, rest_from-head, Among-head}
use Rattle.mm_names.proofs.names.find_at.Goals as goal

pub has_tag-requires : goal.has_tag-requires
has_tag-requires c =
    let list = list_at c.args.index.now c.args.spot.list in
    in_range c.args.index.now c.first.ensures.matched c.args.spot.list c.in-Some.first (Among-head list c.in-Some.first (sym c.first.ensures.first ∙ c.in-Some.is))

pub returns-in_default : goal.returns-in_default
returns-in_default c =
    let list = list_at c.args.index.now c.args.spot.list in
    λ named. absurd (subst (Among named.0) (sym (ap (rest_from list) (sym c.in_default.is ∙ c.first.ensures.first) ∙ rest_from-head list))
    (in_its_list c.args.index.now c.first.ensures.matched named.0 c.args.spot (c.requires.at_spot named.0 named.1)))
