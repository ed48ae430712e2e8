use Rattle.std.proofs.Common.{◌∙◌}
use Rattle.mm_lists.proofs.Lemmas.Cut.{same_length}
use Rattle.mm_lists.proofs.Lemmas.Range.{no_repeat_filter_range}
use Rattle.mm_rules.specs.TableState.{owns, resources_of}
use Rattle.mm_tagged_lists.specs.TaggedLists.{list_at}
use Rattle.mm_table.proofs.Fields.Ownership.{listed, in_resources, of_resources}
use Rattle.mm_table.proofs.records.Records.owned_len_live.Goals as goal

pub returns : goal.returns
returns c =
    let s = c.args.self.now in
    let n = c.args.key.process in
    let owned = c.self.inside.owned in
    let lists = listed c.self.inside s c.self.invariant c.self.view_is c.first.ensures.matched in
    c.len.ensures
    ∙ same_length (list_at owned n) (resources_of s n) (c.first.ensures.matched.once n) (no_repeat_filter_range (owns s n) 0 s.config.resources)
    (in_resources s owned lists n) (of_resources s owned lists n)
