use Rattle.std.proofs.Common.{Result, sym, ◌∙◌, subst}
use Rattle.mm_thin.specs.Parts.{WorkerState}
use Rattle.mm_locks.specs.declared.error.LockError.{LockError}
use Rattle.mm_locks.specs.Told.{UnlocksSo}
use Rattle.mm_locks.proofs.Telling.{gave_back_alone, is_error, kept_unless}
use Rattle.mm_locks.proofs.transaction.Transaction.unlock.Goals as goal

pub returns-in-Done-clause-told : goal.returns-in-Done-clause-told
returns-in-Done-clause-told g c =
    let old = c.args.self.now.session.now in
    gave_back_alone old c.args.name.now c.give_back_name.new.self old.sound c.in-Done.ensures

pub returns-in_err-unlock-clause-told : goal.returns-in_err-unlock-clause-told
returns-in_err-unlock-clause-told g c =
    let old = c.args.self.now.session.now in
    let name = c.args.name.now in
    let new = c.unlock.new.self in
    let same = kept_unless old.worker name c.give_back_name.result c.give_back_name.new.self c.give_back_name.ensures c.in_default.not-Done in
    let told = subst (λ (w : WorkerState). UnlocksSo (record old { worker = w }) name c.unlock.result new) same c.unlock.ensures.told in
    subst (λ (r : Result (Unit {0}) LockError). UnlocksSo old name r new) (c.in_err-unlock.was ∙ sym (is_error c.from_residual.result c.in_err-unlock.field-0.0 c.from_residual.ensures.1)) told

pub returns-clause-told : goal.returns-clause-told
returns-clause-told g c =
    let old = c.args.self.now.session.now in
    let name = c.args.name.now in
    let new = c.unlock.new.self in
    let same = kept_unless old.worker name c.give_back_name.result c.give_back_name.new.self c.give_back_name.ensures c.in_default.not-Done in
    let told = subst (λ (w : WorkerState). UnlocksSo (record old { worker = w }) name c.unlock.result new) same c.unlock.ensures.told in
    subst (λ (r : Result (Unit {0}) LockError). UnlocksSo old name r new) c.in_ok-unlock.was told
