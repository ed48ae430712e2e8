use Rattle.std.proofs.Common.{◌++◌, ◌∷◌, [], ap, ◌∙◌, arith}
use Rattle.mm_rules.specs.TableState.{waited_for}
use Rattle.mm_transactions.specs.Transactions.{Transactions}
use Rattle.mm_transactions.proofs.Lemmas.Start.{IsStart, vacant, room, start_consistent, start_seen}
use Rattle.mm_transactions.proofs.Lemmas.Slots.{live_slot}
use Rattle.mm_transactions.specs.Transactions.{is_live}
use Rattle.mm_transactions.proofs.transactions.Transactions.start_wait.Goals as goal

starts : (c : goal.After-push_back-arg-1) → IsStart c.self.inside.arrivals.items c.self.inside.slots c.args.key c.value_mut-entry.result.now c.args.resource c.args.arrival c.self.inside.queues c.self.inside.latest c.self.inside.waiting
starts c = record {
  found = c.value_mut-entry.ensures.value;
  resource = omega (arith, ap (λ t. t.resources) c.self.view_is, c.requires.resource);
  later = omega (arith, ap (λ t. t.latest) c.self.view_is, c.requires.latest);
  idle = ap (λ t. waited_for t.waits c.args.key.process) c.self.view_is ∙ c.requires.idle;
  kept = c.self.invariant;
}

pub push_back-requires-clause-not_occupied : goal.push_back-requires-clause-not_occupied
push_back-requires-clause-not_occupied c = vacant (starts c)

pub overflow_add-self : goal.overflow_add-self
overflow_add-self c = omega (arith, room (starts c.before.before))

pub invariant_of-self : goal.invariant_of-self
invariant_of-self c = rw (c.push_back.ensures, c.to-entry.ensures) (start_consistent (starts c.before.before.before))

pub returns : goal.returns
returns c =
    rw c.to-entry.ensures (
    start_seen (starts c.before.before.before) c.push_back.new.self c.push_back.ensures
    ∙ ap (λ (t : Transactions). record t { waits = t.waits ++ record { key = c.args.key; resource = c.args.resource } ∷ []; latest = c.args.arrival }) c.self.view_is)

pub value_mut-entry-requires : goal.value_mut-entry-requires
value_mut-entry-requires c =
    let inside = c.self.inside in
    live_slot inside.arrivals.items inside.slots inside.queues inside.latest c.args.key (ap (λ t. is_live t c.args.key) c.self.view_is ∙ c.requires.live)
