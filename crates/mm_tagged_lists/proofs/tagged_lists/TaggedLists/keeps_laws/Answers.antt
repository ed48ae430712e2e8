use Rattle.std.proofs.Common.{arith}
use Rattle.mm_tagged_lists.proofs.Lemmas.Items.{links_now}
use Rattle.mm_tagged_lists.proofs.tagged_lists.TaggedLists.keeps_laws.Goals as goal

pub returns-clause-matched : goal.returns-clause-matched
returns-clause-matched c = (links_now c.args.self.now c.self.inside.firsts.items c.self.inside.items.items c.self.view_is c.self.invariant).matched

pub returns-clause-few : goal.returns-clause-few
returns-clause-few c =
    let linked = links_now c.args.self.now c.self.inside.firsts.items c.self.inside.items.items c.self.view_is c.self.invariant in
    omega (arith, linked.size, linked.few_items)
