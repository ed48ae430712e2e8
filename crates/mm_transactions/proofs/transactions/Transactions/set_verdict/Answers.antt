use Rattle.std.proofs.Common.{◌≡◌, Some, ap, ◌∙◌, slice_set}
use Rattle.mm_arena.specs.Slots.{lookup}
use Rattle.mm_transactions.specs.Transactions.{Transactions}
use Rattle.mm_transactions.proofs.Lemmas.Verdict.{verdict_written, verdict_kept}
use Rattle.mm_transactions.proofs.Lemmas.Slots.{live_slot}
use Rattle.mm_transactions.specs.Transactions.{is_live}
use Rattle.mm_transactions.proofs.transactions.Transactions.set_verdict.Goals as goal

found : (c : goal.After-self-1) → lookup c.self.inside.slots c.args.key ≡ Some c.value_mut.result.now
found c = c.value_mut.ensures.value

pub invariant_of-self : goal.invariant_of-self
invariant_of-self c =
    let inside = c.self.inside in
    verdict_kept inside.arrivals.items inside.slots c.args.key c.value_mut.result.now (found c) c.args.has_verdict inside.queues inside.latest inside.waiting c.self.invariant

pub returns : goal.returns
returns c =
    let inside = c.self.inside in
    verdict_written inside.arrivals.items inside.slots c.args.key c.value_mut.result.now (found c) c.args.has_verdict inside.queues inside.latest
    ∙ ap (λ (t : Transactions). record t { verdicts = slice_set t.verdicts c.args.key.process c.args.has_verdict }) c.self.view_is

pub value_mut-requires : goal.value_mut-requires
value_mut-requires c =
    let inside = c.self.inside in
    live_slot inside.arrivals.items inside.slots inside.queues inside.latest c.args.key (ap (λ t. is_live t c.args.key) c.self.view_is ∙ c.requires)
