use Rattle.std.proofs.Common.{◌≡◌, true, false, sym, ap, ◌∙◌, arith}
use Rattle.mm_rules.specs.Withdraw.{IsBehindVictim}
use Rattle.mm_rules.specs.declared.reply.Totals.{Totals}
use Rattle.mm_settled.proofs.settled.SettledTable.withdraw.Goals as goal

pub invariant_of-self : goal.invariant_of-self
invariant_of-self c = record {
  rest = c.withdraw-answer.ensures.rest;
  none = λ v. c.withdraw-answer.ensures.others v ∙ c.self.invariant.none v;
  fits = c.withdraw-answer.ensures.fits;
  told_at = omega (arith, ap (λ (n : Totals). n.accepted) c.totals.ensures);
}

pub returns-clause-carried : goal.returns-clause-carried
returns-clause-carried c = λ is.
    let behind : IsBehindVictim c.self.inside.parts.table c.args.key.process = c.withdraw-answer.ensures.carried is in
    let never : true ≡ false = sym behind.verdict ∙ c.self.invariant.none behind.victim in
    absurd (cc)
