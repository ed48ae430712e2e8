use Rattle.std.proofs.Common.{◌≡◌, ℕ, subst}
use Rattle.std.specs.Bool.{OnFalse}
use Rattle.mm_locks.specs.Calls.{RollsBack}
use Rattle.mm_desk.specs.Desk.{DeskState}
use Rattle.mm_locks.specs.Noted.{AbortNotes}
use Rattle.mm_locks.specs.declared.wakes.Wakes.{Wakes}
use Rattle.mm_locks.specs.declared.wakes.PendingWakes.{PendingWakes}
use Rattle.mm_locks.proofs.hall.Hall.roll_back.Goals as goal

pub returns-clause-rolls_back : goal.returns-clause-rolls_back
returns-clause-rolls_back c =
    let same = subst (λ is. OnFalse is (c.unlock_portion.new.self.desk ≡ c.args.self.now.desk)) c.if-unlock_portion.false c.unlock_portion.ensures.none in
    subst (λ at. RollsBack c.args.self.now.desk at c.abort.new.self.desk) c.at-at.ensures
    (subst (λ d. RollsBack d c.at-at.result c.abort.new.self.desk) same c.abort.ensures.aborts)

pub returns-clause-noted : goal.returns-clause-noted
returns-clause-noted c =
    let now = c.args.self.now in
    let new = c.abort.new.self in
    let same = subst (λ is. OnFalse is (c.unlock_portion.new.self.desk ≡ now.desk)) c.if-unlock_portion.false c.unlock_portion.ensures.none in
    let kept = subst (λ is. OnFalse is ((c.unlock_portion.new.self.pending ≡ now.pending) × (c.unlock_portion.new.wakes ≡ c.args.wakes.now))) c.if-unlock_portion.false c.unlock_portion.ensures.kept in
    subst (λ (w : Wakes). AbortNotes now.desk c.args.worker.now.at w.processes.items now.pending.set c.abort.new.wakes.processes.items new.pending.set) kept.1
    (subst (λ (p : PendingWakes). AbortNotes now.desk c.args.worker.now.at c.unlock_portion.new.wakes.processes.items p.set c.abort.new.wakes.processes.items new.pending.set) kept.0
    (subst (λ (d : DeskState). AbortNotes d c.args.worker.now.at c.unlock_portion.new.wakes.processes.items c.unlock_portion.new.self.pending.set c.abort.new.wakes.processes.items new.pending.set) same
    (subst (λ (at : ℕ). AbortNotes c.unlock_portion.new.self.desk at c.unlock_portion.new.wakes.processes.items c.unlock_portion.new.self.pending.set c.abort.new.wakes.processes.items new.pending.set) c.at-at.ensures c.abort.ensures.noted)))
