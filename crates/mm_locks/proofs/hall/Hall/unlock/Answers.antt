use Rattle.std.proofs.Common.{◌≡◌, sym, subst, true}
use Rattle.std.specs.Prelude.{IfErr}
use Rattle.mm_locks.specs.Calls.{HandsBack}
use Rattle.mm_locks.specs.Errors.{of_unlock}
use Rattle.mm_locks.proofs.Refusals.{unlocks_refused}
use Rattle.mm_locks.proofs.hall.Hall.unlock.Goals as goal

pub returns-in-Some-clause-refused : goal.returns-in-Some-clause-refused
returns-in-Some-clause-refused c =
    let old = c.args.self.now.desk in
    let new = c.hand_back-answer.new.self.desk in
    let handed = subst (λ a. HandsBack old c.args.worker.now.at c.args.name.now a new) c.in-Some.is c.hand_back-answer.ensures.hands in
    subst (λ r. IfErr r (λ error. of_unlock error ≡ true)) (sym c.done.ensures) (unlocks_refused old c.args.worker.now.at c.args.name.now c.in-Some.answer new handed)
