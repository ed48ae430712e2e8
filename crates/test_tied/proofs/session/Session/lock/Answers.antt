use Rattle.std.proofs.Common.{rules}
use Rattle.test_tied.proofs.Waiting.{once_more, at_last}
use Rattle.test_tied.proofs.session.Session.lock.Goals as goal

pub returns-then-ne-clause-told : goal.returns-then-ne-clause-told
returns-then-ne-clause-told g c = at_last c.args.self.now c.loop.self c.try_lock-answer.new.self c.args.name _ c.loop.invariant.2 c.loop.invariant.3 c.try_lock-answer.ensures.told

pub loop-preserved : goal.loop-preserved
loop-preserved g c = (search rules, search rules, search rules, once_more c.args.self.now c.loop.self c.try_lock-answer.new.self c.args.name _ c.loop.invariant.2 c.loop.invariant.3 c.try_lock-answer.ensures.told (search rules))
