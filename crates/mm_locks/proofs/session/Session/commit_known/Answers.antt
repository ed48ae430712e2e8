use Rattle.std.proofs.Common.{rules, ℕ, Option, Some, None, Result}
use Rattle.mm_locks.specs.declared.error.LockError.{LockError}
use Rattle.mm_locks.specs.declared.history.Event.{Event}
use Rattle.mm_locks.specs.declared.history.Event.TheVariants as event
use Rattle.mm_locks.proofs.Telling.{once_more, at_last}
use Rattle.mm_locks.proofs.session.Session.commit_known.Goals as goal

pub returns-in-Some-commit_portion-clause-told : goal.returns-in-Some-commit_portion-clause-told
returns-in-Some-commit_portion-clause-told g c =
    let ended : ℕ → Option (Result (Unit {0}) LockError) → Event = λ at answer. event.Ended at answer in
    at_last ended None c.args.self.now c.loop.self c.commit_portion.new.self c.loop.invariant.2 c.loop.invariant.3 ended c.commit_portion.result (Some c.in-Some-commit_portion.answer) c.commit_portion.ensures.told c.in-Some-commit_portion.is

pub loop-preserved : goal.loop-preserved
loop-preserved g c =
    let ended : ℕ → Option (Result (Unit {0}) LockError) → Event = λ at answer. event.Ended at answer in (
      search rules,
      search rules,
      search rules,
      once_more ended None c.args.self.now c.loop.self c.commit_portion.new.self c.loop.invariant.2 c.loop.invariant.3 c.commit_portion.result c.commit_portion.ensures.told c.in_default.is,
    )
