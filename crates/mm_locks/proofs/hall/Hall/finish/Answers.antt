use Rattle.std.proofs.Common.{rules, inl, inr, sym, ap, arith}
use Rattle.mm_locks.specs.Calls.{ended_of}
use Rattle.mm_locks.proofs.Refusals.{not_ended}
use Rattle.mm_locks.proofs.hall.Hall.finish.Goals as goal

pub returns-then-is_done-clause-commits : goal.returns-then-is_done-clause-commits
returns-then-is_done-clause-commits c = (
  c.args.self.now.room.numbers.cap,
  c.commit-answer.result,
  c.commit-answer.new.self,
  c.commit-answer.ensures.commits,
  inl (c.is_done.ensures.0 c.if-is_done.true, (c.begin.result, c.begin.ensures)),
  sym (ap ended_of (c.is_done.ensures.0 c.if-is_done.true)),
)

pub returns-clause-commits : goal.returns-clause-commits
returns-clause-commits c = (
  c.args.self.now.room.numbers.cap,
  c.commit-answer.result,
  c.commit-answer.new.self,
  c.commit-answer.ensures.commits,
  inr (
    (λ is. (let never = c.is_done.ensures.1 is in let no = c.if-is_done.false in absurd (grind (arith)))),
    c.abort.ensures.aborts,
  ),
  not_ended c.commit-answer.result (λ is. (let never = c.is_done.ensures.1 is in let no = c.if-is_done.false in absurd (grind (arith)))),
)

pub returns-then-is_done-clause-noted : goal.returns-then-is_done-clause-noted
returns-then-is_done-clause-noted c = (
  c.args.self.now.room.numbers.cap,
  c.commit-answer.result,
  c.commit-answer.new.self,
  c.commit-answer.ensures.commits,
  inl (c.is_done.ensures.0 c.if-is_done.true, search rules),
)

pub returns-clause-noted : goal.returns-clause-noted
returns-clause-noted c = (
  c.args.self.now.room.numbers.cap,
  c.commit-answer.result,
  c.commit-answer.new.self,
  c.commit-answer.ensures.commits,
  inr (
    (λ is. (let never = c.is_done.ensures.1 is in let no = c.if-is_done.false in absurd (grind (arith)))),
    c.abort.ensures.noted,
  ),
)
