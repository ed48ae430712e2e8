use Rattle.std.proofs.Common.{◌≤◌, None, replicate, arith, ap, ◌∙◌}
use Rattle.std.proofs.lemmas.Grind.{common_steps}
use Rattle.mm_links.specs.Link.{none_number}
use Rattle.mm_tagged_lists.proofs.Lemmas.Items.{no_spot, shown_unlisted}
use Rattle.mm_tagged_lists.proofs.tagged_lists.TaggedLists.new.Goals as goal

pub invariant_of-result : goal.invariant_of-result
invariant_of-result c =
    let few : c.args.items ≤ none_number = omega arith in
    let few_lists : c.args.lists ≤ none_number = omega arith in
    let firsts = c.firsts.invariant.0 ∙ ap (λ n. replicate n None) (omega arith) in
    let kept = c.kept.invariant.0 ∙ ap (λ n. replicate n no_spot) (omega arith) in
    (shown_unlisted c.args.lists c.args.items _ _ firsts kept few few_lists).kept

pub returns : goal.returns
returns c =
    let few : c.args.items ≤ none_number = omega arith in
    let few_lists : c.args.lists ≤ none_number = omega arith in
    let firsts = c.firsts.invariant.0 ∙ ap (λ n. replicate n None) (omega arith) in
    let kept = c.kept.invariant.0 ∙ ap (λ n. replicate n no_spot) (omega arith) in
    (shown_unlisted c.args.lists c.args.items _ _ firsts kept few few_lists).is

pub push_reserved-requires : goal.push_reserved-requires
push_reserved-requires c = grind (arith, common_steps)

pub firsts-preserved : goal.firsts-preserved
firsts-preserved c = grind (arith, common_steps)

pub push_reserved-requires-in-kept : goal.push_reserved-requires-in-kept
push_reserved-requires-in-kept c = grind (arith, common_steps)

pub kept-preserved : goal.kept-preserved
kept-preserved c = grind (arith, common_steps)
