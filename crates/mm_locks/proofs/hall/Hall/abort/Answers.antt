use Rattle.std.proofs.Common.{rules}
use Rattle.mm_locks.proofs.hall.Hall.abort.Goals as goal

pub returns-clause-aborts : goal.returns-clause-aborts
returns-clause-aborts c = (c.args.self.now.room.numbers.cap, c.abort.result, c.abort.new.self, c.abort.ensures.aborts, (c.begin.result, c.begin.ensures))

pub returns-clause-noted : goal.returns-clause-noted
returns-clause-noted c = (c.args.self.now.room.numbers.cap, c.abort.result, c.abort.new.self, c.abort.ensures.aborts, search rules)
