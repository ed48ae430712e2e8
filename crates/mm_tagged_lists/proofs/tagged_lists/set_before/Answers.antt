use Rattle.std.proofs.Common.{sym, ◌∙◌}
use Rattle.mm_tagged_lists.proofs.Lemmas.Items.{set_before_links, same_spots}
use Rattle.mm_tagged_lists.proofs.tagged_lists.set_before.Goals as goal

pub returns-in-Some-clause-links : goal.returns-in-Some-clause-links
returns-in-Some-clause-links c =
    let is = sym c.get.ensures ∙ c.in-Some.is in
    set_before_links c.args.items.now c.in-Some.item c.index-items-item.result c.args.item c.args.before (c.requires c.in-Some.item is) is

pub returns-in-Some-clause-spots : goal.returns-in-Some-clause-spots
returns-in-Some-clause-spots c = same_spots c.args.items.now c.in-Some.item c.index-items-item.result _
