use Rattle.std.proofs.Common.{Ok, ◌∙◌, ap, inl, inr, refl}
use Rattle.mm_locks.specs.Calls.{done_of}
use Rattle.mm_locks.specs.Told.{owning}
use Rattle.mm_locks.specs.declared.history.Event.TheVariants as event
use Rattle.mm_locks.proofs.Telling.{begun_err, begun_none, begun_some, is_error, locks_after, locks_for_after, waits}
use Rattle.mm_locks.proofs.transaction.Transaction.lock_for.Goals as goal

pub returns-in_err-granted-clause-told : goal.returns-in_err-granted-clause-told
returns-in_err-granted-clause-told g c =
    let old = c.args.self.now.session.now in
    let mid = record old { worker = c.take_thinly.new.worker } in
    let new = c.begin_wait.new.self.session.now in
    let locks = begun_err mid new c.args.name.now c.begin_wait.result c.begin_wait.ensures.told c.in_err-granted.field-0.0 c.from_residual.result c.in_err-granted.was
    (is_error c.from_residual.result c.in_err-granted.field-0.0 c.from_residual.ensures.1) in
    inl (locks_after old mid new c.args.name.now (c.take_thinly.ensures.at, refl, refl) refl c.from_residual.result locks)

pub returns-in-Some-clause-told : goal.returns-in-Some-clause-told
returns-in-Some-clause-told g c =
    let old = c.args.self.now.session.now in
    let mid = record old { worker = c.take_thinly.new.worker } in
    let new = c.begin_wait.new.self.session.now in
    let locks = begun_some mid new c.args.name.now c.begin_wait.result c.begin_wait.ensures.told c.in-Some.granted (c.in_ok-granted.was ∙ ap Ok c.in-Some.is) in
    inl (locks_after old mid new c.args.name.now (c.take_thinly.ensures.at, refl, refl) refl (Ok c.in-Some.granted) locks)

pub returns-in-None-clause-told : goal.returns-in-None-clause-told
returns-in-None-clause-told g c =
    let old = c.args.self.now.session.now in
    let mid = record old { worker = c.take_thinly.new.worker } in
    let then = c.begin_wait.new.self.session.now in
    let asks = begun_none mid then c.args.name.now c.begin_wait.result c.begin_wait.ensures.told (c.in_ok-granted.was ∙ ap Ok c.in-None.is) in
    let waited = waits mid then c.sleep_for.new.session c.begin_wait.ensures.same c.args.name.now in
    locks_for_after old mid c.sleep_for.new.session c.args.name.now (c.take_thinly.ensures.at, refl, refl) refl c.sleep_for.result
    (elim c.sleep_for.ensures.told [
      | inl looks ↦ inl (inr (inr (waited (λ at. event.Looked at c.args.name.now (owning c.sleep_for.result)) asks looks)))
      | inr looks ↦ inr (waited (λ at. event.TookBack at c.args.name.now (done_of c.sleep_for.result)) asks looks)
    ])
