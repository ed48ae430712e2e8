use Rattle.mm_rules.specs.Event.{Finish}
use Rattle.mm_settled.specs.Calls.{Made}
use Rattle.example_calls.proofs.RolledBack.{ended_owns_nothing}
use Rattle.example_calls.proofs.settled.roll_back.Goals as goal

pub returns-in-Ok-clause-rolled_back : goal.returns-in-Ok-clause-rolled_back
returns-in-Ok-clause-rolled_back c =
    let made : Made (Finish c.args.key) c.args.table.now.table tt c.finish-answer.new.self.table = rw c.in-Ok.is at c.finish-answer.ensures.makes in
    λ is. ended_owns_nothing c.args.table.now.table c.finish-answer.new.self.table c.args.key c.is_at_rest.ensures.laws made
