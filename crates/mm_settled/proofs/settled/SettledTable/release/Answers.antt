use Rattle.std.proofs.Common.{ap, subst, arith}
use Rattle.mm_rules.specs.declared.reply.Totals.{Totals}
use Rattle.mm_rules.specs.Event.{Release}
use Rattle.mm_settled.specs.Calls.{Makes}
use Rattle.mm_settled.specs.SettledState.{SettledState}
use Rattle.mm_settled.proofs.settled.SettledTable.release.Goals as goal

pub invariant_of-self : goal.invariant_of-self
invariant_of-self c = record {
  rest = c.release-answer.ensures.ends.rest;
  none = c.release-answer.ensures.ends.none c.self.invariant.none;
  fits = c.release-answer.ensures.ends.fits;
  told_at = omega (arith, ap (λ (n : Totals). n.accepted) c.totals.ensures);
}

pub returns-clause-makes : goal.returns-clause-makes
returns-clause-makes c = subst (λ (old : SettledState). Makes (Release c.args.key c.args.resource) old.table c.release-answer.result c.release-answer.new.self.table) c.self.view_is c.release-answer.ensures.makes
