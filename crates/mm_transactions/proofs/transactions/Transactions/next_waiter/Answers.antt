use Rattle.std.proofs.Common.{subst, sym, ap, ◌∙◌}
use Rattle.mm_rules.specs.TableState.{waited_for}
use Rattle.mm_transactions.specs.private.Walk.{IsNextWaiter}
use Rattle.mm_transactions.proofs.Lemmas.Linked.{next_is, waiting_stands}
use Rattle.mm_transactions.proofs.Lemmas.Lawful.{none_past}
use Rattle.mm_transactions.proofs.transactions.Transactions.next_waiter.Goals as goal

pub next_process-requires : goal.next_process-requires
next_process-requires c =
    let inside = c.self.inside in
    waiting_stands inside.queues _ c.args.process c.self.invariant.linked (none_past inside.arrivals.items inside.slots inside.queues inside.latest inside.waiting c.self.invariant)
    (λ none. c.requires (sym (ap (λ t. waited_for t.waits c.args.process) c.self.view_is) ∙ none))

pub returns : goal.returns
returns c =
    let inside = c.self.inside in
    subst (λ ws. IsNextWaiter ws c.args.process c.next_process.result) (ap (λ t. t.waits) c.self.view_is)
    (next_is inside.queues _ c.args.process c.next_process.result c.self.invariant.linked (none_past inside.arrivals.items inside.slots inside.queues inside.latest inside.waiting c.self.invariant) c.next_process.ensures)
