use Rattle.std.proofs.Common.{sym}
use Rattle.mm_queue.proofs.Lemmas.Entries.{has_value, next_written, tags_stay}
use Rattle.mm_queue.proofs.standing.set_next.Goals as goal

pub stored_mut-requires : goal.stored_mut-requires
stored_mut-requires c = has_value _ _ (c.requires c.in-Some.process (sym c.in-Some.ensures))

pub returns-in-Some-clause-links : goal.returns-in-Some-clause-links
returns-in-Some-clause-links c =
    next_written c.args.entries.now c.in-Some.process c.stored_mut.result.now c.stored_mut.ensures.value c.args.process c.args.next (sym c.in-Some.ensures)

pub returns-in-Some-clause-tags : goal.returns-in-Some-clause-tags
returns-in-Some-clause-tags c =
    tags_stay c.args.entries.now c.in-Some.process c.stored_mut.result.now c.stored_mut.ensures.value _
