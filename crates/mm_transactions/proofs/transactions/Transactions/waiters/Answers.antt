use Rattle.std.proofs.Common.{option_map, ap, ◌∙◌}
use Rattle.mm_transactions.proofs.Lemmas.Walk.{stands_first, all_left}
use Rattle.mm_transactions.proofs.transactions.Transactions.waiters.Goals as goal

pub invariant_of-result : goal.invariant_of-result
invariant_of-result c =
    stands_first c.args.self.now.waits c.args.resource c.process_of.result (c.process_of.ensures ∙ ap (option_map (λ k. k.process)) c.first_queued-first.ensures) c.keeps_laws.ensures.once

pub returns : goal.returns
returns c =
    all_left c.args.self.now.waits c.args.resource c.process_of.result (c.process_of.ensures ∙ ap (option_map (λ k. k.process)) c.first_queued-first.ensures) c.keeps_laws.ensures.once
