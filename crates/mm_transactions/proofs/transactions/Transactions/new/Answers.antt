use Rattle.std.proofs.Common.{◌≡◌, ap, length, ◌∙◌, arith}
use Rattle.std.proofs.lemmas.List.{length-replicate}
use Rattle.mm_arena.specs.Slots.{opening_slots}
use Rattle.mm_queue.specs.Queues.{empty_queues}
use Rattle.mm_transactions.proofs.Lemmas.Opening.{opened, open_consistent}
use Rattle.mm_transactions.proofs.transactions.Transactions.new.Goals as goal

pub invariant_of-result : goal.invariant_of-result
invariant_of-result c =
    let slots : c.in_ok-new.field-0 ≡ opening_slots c.args.processes c.args.generation_limit = c.in_ok-new.ensures in
    let queues : c.in_ok-new_wide.field-0 ≡ empty_queues c.args.resources c.args.processes = c.in_ok-new_wide.ensures in
    rw (slots, queues) (open_consistent _ c.args.processes c.args.resources c.args.generation_limit (ap length c.in_ok-no_arrivals.ensures ∙ length-replicate c.args.processes 0) c.requires.processes_in_range (omega arith))

pub returns : goal.returns
returns c =
    let slots : c.in_ok-new.field-0 ≡ opening_slots c.args.processes c.args.generation_limit = c.in_ok-new.ensures in
    let queues : c.in_ok-new_wide.field-0 ≡ empty_queues c.args.resources c.args.processes = c.in_ok-new_wide.ensures in
    rw (slots, queues) (opened _ c.args.processes c.args.resources c.args.generation_limit)
