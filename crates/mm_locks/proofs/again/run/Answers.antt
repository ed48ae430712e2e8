use Rattle.mm_locks.proofs.Attempts.{its_error, its_value, returned}
use Rattle.mm_locks.proofs.again.run.Goals as goal

pub returns-then-is_ok-clause-value : goal.returns-then-is_ok-clause-value
returns-then-is_ok-clause-value g c = its_value g.F.FnMut g.E.From.from_gives c.work-answer.result (returned g.F.FnMut c.work-answer.result c.work-answer.ensures) c.ended.result c.ended.ensures.value

pub returns-then-is_ok-clause-error : goal.returns-then-is_ok-clause-error
returns-then-is_ok-clause-error g c = its_error g.F.FnMut g.E.From.from_gives c.work-answer.result (returned g.F.FnMut c.work-answer.result c.work-answer.ensures) c.ended.result c.ended.ensures.error

pub returns-clause-value : goal.returns-clause-value
returns-clause-value g c = its_value g.F.FnMut g.E.From.from_gives c.work-answer-2.result (returned g.F.FnMut c.work-answer-2.result c.work-answer-2.ensures) c.ended-2.result c.ended-2.ensures.value

pub returns-clause-error : goal.returns-clause-error
returns-clause-error g c = its_error g.F.FnMut g.E.From.from_gives c.work-answer-2.result (returned g.F.FnMut c.work-answer-2.result c.work-answer-2.ensures) c.ended-2.result c.ended-2.ensures.error
