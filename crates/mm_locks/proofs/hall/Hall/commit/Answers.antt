use Rattle.std.proofs.Common.{◌≡◌, ℕ, subst}
use Rattle.std.specs.Bool.{OnFalse}
use Rattle.mm_locks.specs.Calls.{CommitsFor}
use Rattle.mm_desk.specs.Desk.{DeskState}
use Rattle.mm_locks.specs.Noted.{CommitNotes}
use Rattle.mm_locks.specs.declared.wakes.Wakes.{Wakes}
use Rattle.mm_locks.specs.declared.wakes.PendingWakes.{PendingWakes}
use Rattle.mm_locks.proofs.hall.Hall.commit.Goals as goal

pub returns-clause-commits : goal.returns-clause-commits
returns-clause-commits c =
    let same = subst (λ is. OnFalse is (c.unlock_portion.new.self.desk ≡ c.args.self.now.desk)) c.if-unlock_portion.false c.unlock_portion.ensures.none in
    subst (λ at. CommitsFor c.args.self.now.desk at c.finish.result c.finish.new.self.desk) c.at-at.ensures
    (subst (λ d. CommitsFor d c.at-at.result c.finish.result c.finish.new.self.desk) same c.finish.ensures.commits)

pub returns-clause-noted : goal.returns-clause-noted
returns-clause-noted c =
    let now = c.args.self.now in
    let new = c.finish.new.self in
    let same = subst (λ is. OnFalse is (c.unlock_portion.new.self.desk ≡ now.desk)) c.if-unlock_portion.false c.unlock_portion.ensures.none in
    let kept = subst (λ is. OnFalse is ((c.unlock_portion.new.self.pending ≡ now.pending) × (c.unlock_portion.new.wakes ≡ c.args.wakes.now))) c.if-unlock_portion.false c.unlock_portion.ensures.kept in
    subst (λ (w : Wakes). CommitNotes now.desk c.args.worker.now.at w.processes.items now.pending.set c.finish.new.wakes.processes.items new.pending.set) kept.1
    (subst (λ (p : PendingWakes). CommitNotes now.desk c.args.worker.now.at c.unlock_portion.new.wakes.processes.items p.set c.finish.new.wakes.processes.items new.pending.set) kept.0
    (subst (λ (d : DeskState). CommitNotes d c.args.worker.now.at c.unlock_portion.new.wakes.processes.items c.unlock_portion.new.self.pending.set c.finish.new.wakes.processes.items new.pending.set) same
    (subst (λ (at : ℕ). CommitNotes c.unlock_portion.new.self.desk at c.unlock_portion.new.wakes.processes.items c.unlock_portion.new.self.pending.set c.finish.new.wakes.processes.items new.pending.set) c.at-at.ensures c.finish.ensures.noted)))
