use Rattle.std.proofs.Common.{[], drop, sym, ◌∙◌}
use Rattle.mm_queue.specs.Queues.{queue}
use Rattle.mm_queue.proofs.Lemmas.Ends.{head-split}
use Rattle.mm_queue.proofs.lists.Lists.pop_front.Goals as goal

pub returns-clause-rest : goal.returns-clause-rest
returns-clause-rest c =
    let keys = queue c.args.self.now c.args.list in
    c.remove.ensures.removed c.args.list [] (drop 1 keys) (head-split keys c.in_ok-key.key (sym c.front.ensures ∙ c.in_ok-key.was))
