use Rattle.std.proofs.Common.{[], replicate, ap, ◌∙◌, arith}
use Rattle.mm_queue.specs.private.Linked.{ends_of}
use Rattle.mm_queue.proofs.Lemmas.Entries.{shown_empty}
use Rattle.mm_queue.proofs.lists.Lists.new_wide.Goals as goal

pub invariant_of-result : goal.invariant_of-result
invariant_of-result c =
    let ends = c.loop.invariant.0 ∙ ap (λ n. replicate n (ends_of [])) (omega arith) in
    (shown_empty c.args.lists c.args.processes _ _ ends c.in_ok-entries.ensures c.requires.processes_in_range).kept

pub returns : goal.returns
returns c =
    let ends = c.loop.invariant.0 ∙ ap (λ n. replicate n (ends_of [])) (omega arith) in
    (shown_empty c.args.lists c.args.processes _ _ ends c.in_ok-entries.ensures c.requires.processes_in_range).is
