use Rattle.std.proofs.Common.{rules, ℕ, Result, Ok, ◌∙◌, ap, sym, inl, inr, refl}
use Rattle.mm_locks.specs.declared.error.LockError.{LockError}
use Rattle.mm_locks.specs.Told.{owning}
use Rattle.mm_locks.specs.Calls.{done_of, found_of}
use Rattle.mm_locks.specs.declared.history.Found.{Found}
use Rattle.mm_locks.specs.declared.history.Found.TheVariants as found
use Rattle.mm_locks.specs.declared.history.Event.{Event}
use Rattle.mm_locks.specs.declared.history.Event.TheVariants as event
use Rattle.mm_locks.proofs.Telling.{once_more, at_last, is_error, waits_on}
use Rattle.mm_locks.proofs.patience.sleep_for.Goals as goal

pub returns-in_default-clause-told : goal.returns-in_default-clause-told
returns-in_default-clause-told g c =
    let looked : ℕ → Result Found LockError → Event = λ at answer. event.Looked at c.args.name.now answer in
    let took : ℕ → Result (Unit {0}) LockError → Event = λ at answer. event.TookBack at c.args.name.now answer in
    inr (at_last looked (Ok found.Waits) c.args.session.now c.loop.session c.take_back.new.self c.loop.invariant.2 c.loop.invariant.3 took (done_of c.take_back.result) (done_of c.take_back.result) c.take_back.ensures.told refl)

pub returns-in_err-granted-clause-told : goal.returns-in_err-granted-clause-told
returns-in_err-granted-clause-told g c =
    let looked : ℕ → Result Found LockError → Event = λ at answer. event.Looked at c.args.name.now answer in
    inl (at_last looked (Ok found.Waits) c.args.session.now c.loop.session c.outcome.new.self c.loop.invariant.2 c.loop.invariant.3 looked (found_of c.outcome.result) _ c.outcome.ensures.told (ap found_of c.in_err-granted.was ∙ sym (ap owning (is_error c.from_residual.result c.in_err-granted.field-0.0 c.from_residual.ensures.1))))

pub returns-in-Owns-clause-told : goal.returns-in-Owns-clause-told
returns-in-Owns-clause-told g c =
    let looked : ℕ → Result Found LockError → Event = λ at answer. event.Looked at c.args.name.now answer in
    inl (at_last looked (Ok found.Waits) c.args.session.now c.loop.session c.outcome.new.self c.loop.invariant.2 c.loop.invariant.3 looked (found_of c.outcome.result) (Ok found.Owns) c.outcome.ensures.told (ap found_of (c.in_ok-granted.was ∙ ap Ok c.in-Owns.is)))

pub loop-preserved : goal.loop-preserved
loop-preserved g c =
    let looked : ℕ → Result Found LockError → Event = λ at answer. event.Looked at c.args.name.now answer in
    let waits = waits_on c.in_ok-granted.field-0 c.in_ok-granted.ensures.settled c.in-Waits.is in (
      search rules,
      search rules,
      search rules,
      once_more looked (Ok found.Waits) c.args.session.now c.loop.session c.outcome.new.self c.loop.invariant.2 c.loop.invariant.3 (found_of c.outcome.result) c.outcome.ensures.told (ap found_of (c.in_ok-granted.was ∙ ap Ok waits)),
    )
