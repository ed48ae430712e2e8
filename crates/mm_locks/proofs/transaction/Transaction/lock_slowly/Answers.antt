use Rattle.std.proofs.Common.{Ok, ◌∙◌, ap, inr}
use Rattle.mm_locks.specs.Told.{owning}
use Rattle.mm_locks.specs.declared.history.Event.TheVariants as event
use Rattle.mm_locks.proofs.Telling.{begun_err, begun_none, is_error, waits}
use Rattle.mm_locks.proofs.transaction.Transaction.lock_slowly.Goals as goal

pub returns-in_err-granted-clause-told : goal.returns-in_err-granted-clause-told
returns-in_err-granted-clause-told g c =
    begun_err c.args.self.now.session.now c.begin_wait.new.self.session.now c.args.name.now c.begin_wait.result c.begin_wait.ensures.told c.in_err-granted.field-0.0 c.from_residual.result c.in_err-granted.was
    (is_error c.from_residual.result c.in_err-granted.field-0.0 c.from_residual.ensures.1)

pub returns-in-None-clause-told : goal.returns-in-None-clause-told
returns-in-None-clause-told g c =
    let old = c.args.self.now.session.now in
    let mid = c.begin_wait.new.self.session.now in
    let asks = begun_none old mid c.args.name.now c.begin_wait.result c.begin_wait.ensures.told (c.in_ok-granted.was ∙ ap Ok c.in-None.is) in
    inr (inr (waits old mid c.sleep.new.session c.begin_wait.ensures.same c.args.name.now (λ at. event.Looked at c.args.name.now (owning c.sleep.result)) asks c.sleep.ensures.told))
