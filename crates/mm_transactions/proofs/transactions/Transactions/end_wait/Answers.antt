use Rattle.std.proofs.Common.{ap, ◌∙◌}
use Rattle.mm_transactions.specs.Transactions.{is_live, without_wait}
use Rattle.mm_transactions.proofs.Lemmas.Slots.{live_slot}
use Rattle.mm_transactions.proofs.Lemmas.Stop.{waits_now, stands, stopped, stop_consistent, stop_seen}
use Rattle.mm_transactions.proofs.transactions.Transactions.end_wait.Goals as goal

pub value_mut-requires : goal.value_mut-requires
value_mut-requires c =
    let inside = c.self.inside in
    live_slot inside.arrivals.items inside.slots inside.queues inside.latest c.args.key (ap (λ t. is_live t c.args.key) c.self.view_is ∙ c.requires.live)

pub take_out-requires : goal.take_out-requires
take_out-requires c =
    let inside = c.self.inside in
    stands (waits_now inside.arrivals.items inside.slots c.args.key c.value_mut.result.now inside.queues inside.latest inside.waiting c.args.self.now c.value_mut.ensures.value c.self.view_is c.requires.waiting c.self.invariant)

pub invariant_of-self : goal.invariant_of-self
invariant_of-self c =
    let inside = c.self.inside in
    let waits = waits_now inside.arrivals.items inside.slots c.args.key c.value_mut.result.now inside.queues inside.latest inside.waiting c.args.self.now c.value_mut.ensures.value c.self.view_is c.requires.waiting c.self.invariant in
    stop_consistent (stopped c.take_out.new.self waits c.take_out.ensures.removed c.take_out.ensures.lists c.take_out.ensures.processes)

pub returns : goal.returns
returns c =
    let inside = c.self.inside in
    let waits = waits_now inside.arrivals.items inside.slots c.args.key c.value_mut.result.now inside.queues inside.latest inside.waiting c.args.self.now c.value_mut.ensures.value c.self.view_is c.requires.waiting c.self.invariant in
    stop_seen (stopped c.take_out.new.self waits c.take_out.ensures.removed c.take_out.ensures.lists c.take_out.ensures.processes)
    ∙ ap (λ t. without_wait t c.args.key.process) c.self.view_is
