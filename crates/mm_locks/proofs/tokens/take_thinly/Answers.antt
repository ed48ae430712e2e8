use Rattle.mm_locks.proofs.Taking.{taken_has, held_has}
use Rattle.mm_locks.proofs.tokens.take_thinly.Goals as goal

pub taken-requires : goal.taken-requires
taken-requires c = taken_has c.args.worker.now c.args.name.now c.take.new.self c.in-Taken.ensures

pub taken-requires-in-Held : goal.taken-requires-in-Held
taken-requires-in-Held c = held_has c.args.worker.now c.args.name.now c.take.new.self c.in-Held.ensures

pub returns-in-Taken-clause-taken : goal.returns-in-Taken-clause-taken
returns-in-Taken-clause-taken c = taken_has c.args.worker.now c.args.name.now c.take.new.self c.in-Taken.ensures
