use Rattle.std.proofs.Common.{ap, subst, arith}
use Rattle.mm_rules.specs.declared.reply.Totals.{Totals}
use Rattle.mm_rules.specs.Event.{Finish}
use Rattle.mm_settled.specs.Calls.{Makes}
use Rattle.mm_settled.specs.SettledState.{SettledState}
use Rattle.mm_settled.proofs.settled.SettledTable.finish.Goals as goal

pub invariant_of-self : goal.invariant_of-self
invariant_of-self c = record {
  rest = c.finish-answer.ensures.ends.rest;
  none = c.finish-answer.ensures.ends.none c.self.invariant.none;
  fits = c.finish-answer.ensures.ends.fits;
  told_at = omega (arith, ap (λ (n : Totals). n.accepted) c.totals.ensures);
}

pub returns-clause-makes : goal.returns-clause-makes
returns-clause-makes c = subst (λ (old : SettledState). Makes (Finish c.args.key) old.table c.finish-answer.result c.finish-answer.new.self.table) c.self.view_is c.finish-answer.ensures.makes
