use Rattle.std.proofs.Common.{rules, ℕ, Result, Ok, ◌∙◌, ap, sym, inr}
use Rattle.mm_locks.specs.declared.error.LockError.{LockError}
use Rattle.mm_locks.specs.Told.{owning_or_not}
use Rattle.mm_locks.specs.Calls.{found_of}
use Rattle.mm_locks.specs.declared.history.Found.{Found}
use Rattle.mm_locks.specs.declared.history.Found.TheVariants as found
use Rattle.mm_locks.specs.declared.history.Event.{Event}
use Rattle.mm_locks.specs.declared.history.Event.TheVariants as event
use Rattle.mm_locks.proofs.Telling.{once_more, at_last, is_error, none_by_now}
use Rattle.mm_locks.proofs.transaction.Transaction.begin_wait.Goals as goal

pub returns-in_err-granted-clause-told : goal.returns-in_err-granted-clause-told
returns-in_err-granted-clause-told g c =
    let asked : ℕ → Result Found LockError → Event = λ at answer. event.Asked at c.args.name.now answer in
    inr (at_last asked (Ok found.Again) c.args.self.now.session.now c.loop.self.session.now c.request.new.self.session.now c.loop.invariant.2 c.loop.invariant.3 asked (found_of c.request.result) _ c.request.ensures.told (ap found_of c.in_err-granted.was ∙ sym (ap owning_or_not (is_error c.from_residual.result c.in_err-granted.field-0.0 c.from_residual.ensures.1))))

pub returns-in-Owns-clause-told : goal.returns-in-Owns-clause-told
returns-in-Owns-clause-told g c =
    let asked : ℕ → Result Found LockError → Event = λ at answer. event.Asked at c.args.name.now answer in
    inr (at_last asked (Ok found.Again) c.args.self.now.session.now c.loop.self.session.now c.request.new.self.session.now c.loop.invariant.2 c.loop.invariant.3 asked (found_of c.request.result) (Ok found.Owns) c.request.ensures.told (ap found_of (c.in_ok-granted.was ∙ ap Ok c.in-Owns.is)))

pub returns-in-Waits-clause-told : goal.returns-in-Waits-clause-told
returns-in-Waits-clause-told g c =
    let asked : ℕ → Result Found LockError → Event = λ at answer. event.Asked at c.args.name.now answer in
    inr (at_last asked (Ok found.Again) c.args.self.now.session.now c.loop.self.session.now c.request.new.self.session.now c.loop.invariant.2 c.loop.invariant.3 asked (found_of c.request.result) (Ok found.Waits) c.request.ensures.told (ap found_of (c.in_ok-granted.was ∙ ap Ok c.in-Waits.is)))

pub loop-init : goal.loop-init
loop-init g c = (
  search rules,
  search rules,
  search rules,
  none_by_now c.args.self.now.session.now c.look_again.new.self.session.now (event.Asked c.args.self.now.session.now.worker.at c.args.name.now (Ok found.Again)) c.args.self.now.session.now.sound c.look_again.ensures.told,
)

pub loop-preserved : goal.loop-preserved
loop-preserved g c =
    let asked : ℕ → Result Found LockError → Event = λ at answer. event.Asked at c.args.name.now answer in (
      search rules,
      search rules,
      search rules,
      once_more asked (Ok found.Again) c.args.self.now.session.now c.loop.self.session.now c.request.new.self.session.now c.loop.invariant.2 c.loop.invariant.3 (found_of c.request.result) c.request.ensures.told (ap found_of (c.in_ok-granted.was ∙ ap Ok c.in-Again.is)),
    )
