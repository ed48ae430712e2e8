use Rattle.std.proofs.Common.{is_some, ap, ◌∙◌}
use Rattle.mm_tagged_lists.proofs.Lemmas.Linked.{FollowsInList-link, next-unlisted}
use Rattle.mm_tagged_lists.proofs.Lemmas.Items.{links_now, read_links}
use Rattle.mm_tagged_lists.proofs.tagged_lists.TaggedLists.next.Goals as goal

pub returns-clause-listed : goal.returns-clause-listed
returns-clause-listed c =
    let inside = c.self.inside in
    let was = c.index.result.now in
    let linked = links_now _ _ inside.items.items c.self.view_is c.self.invariant in
    let read = read_links inside.items.items c.args.item was was c.index.ensures in
    λ n earlier later whole. c.get.ensures ∙ FollowsInList-link _ _ _ linked c.args.item was.links was.links c.requires read n earlier later whole

pub returns-clause-unlisted : goal.returns-clause-unlisted
returns-clause-unlisted c =
    let inside = c.self.inside in
    let was = c.index.result.now in
    let linked = links_now _ _ inside.items.items c.self.view_is c.self.invariant in
    let read = read_links inside.items.items c.args.item was was c.index.ensures in
    λ free. ap is_some (c.get.ensures ∙ next-unlisted _ _ _ linked c.args.item was.links was.links c.requires read free)
