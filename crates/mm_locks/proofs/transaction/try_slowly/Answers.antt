use Rattle.std.proofs.Common.{rules, ℕ, Result, Ok, ◌∙◌, ap, sym}
use Rattle.mm_locks.specs.declared.error.LockError.{LockError}
use Rattle.mm_locks.specs.Calls.{found_of}
use Rattle.mm_locks.specs.declared.history.Found.{Found}
use Rattle.mm_locks.specs.declared.history.Found.TheVariants as found
use Rattle.mm_locks.specs.declared.history.Event.{Event}
use Rattle.mm_locks.specs.declared.history.Event.TheVariants as event
use Rattle.mm_locks.specs.Told.{owning_or_not}
use Rattle.mm_locks.proofs.Telling.{once_more, at_last, is_error}
use Rattle.mm_locks.proofs.transaction.try_slowly.Goals as goal

pub returns-in_err-granted-clause-told : goal.returns-in_err-granted-clause-told
returns-in_err-granted-clause-told g c =
    let tried : ℕ → Result Found LockError → Event = λ at answer. event.Tried at c.args.name.now answer in
    at_last tried (Ok found.Again) c.args.session.now c.loop.session c.try_lock.new.self c.loop.invariant.2 c.loop.invariant.3 tried (found_of c.try_lock.result) _ c.try_lock.ensures.told (ap found_of c.in_err-granted.was ∙ sym (ap owning_or_not (is_error c.from_residual.result c.in_err-granted.field-0.0 c.from_residual.ensures.1)))

pub returns-in-Owns-clause-told : goal.returns-in-Owns-clause-told
returns-in-Owns-clause-told g c =
    let tried : ℕ → Result Found LockError → Event = λ at answer. event.Tried at c.args.name.now answer in
    at_last tried (Ok found.Again) c.args.session.now c.loop.session c.try_lock.new.self c.loop.invariant.2 c.loop.invariant.3 tried (found_of c.try_lock.result) (Ok found.Owns) c.try_lock.ensures.told (ap found_of (c.in_ok-granted.was ∙ ap Ok c.in-Owns.is))

pub returns-in-Waits-clause-told : goal.returns-in-Waits-clause-told
returns-in-Waits-clause-told g c =
    let tried : ℕ → Result Found LockError → Event = λ at answer. event.Tried at c.args.name.now answer in
    at_last tried (Ok found.Again) c.args.session.now c.loop.session c.try_lock.new.self c.loop.invariant.2 c.loop.invariant.3 tried (found_of c.try_lock.result) (Ok found.Waits) c.try_lock.ensures.told (ap found_of (c.in_ok-granted.was ∙ ap Ok c.in-Waits.is))

pub loop-preserved : goal.loop-preserved
loop-preserved g c =
    let tried : ℕ → Result Found LockError → Event = λ at answer. event.Tried at c.args.name.now answer in (
      search rules,
      search rules,
      search rules,
      once_more tried (Ok found.Again) c.args.session.now c.loop.session c.try_lock.new.self c.loop.invariant.2 c.loop.invariant.3 (found_of c.try_lock.result) c.try_lock.ensures.told (ap found_of (c.in_ok-granted.was ∙ ap Ok c.in-Again.is)),
    )
