use Rattle.std.proofs.Common.{sym, ap, subst, arith}
use Rattle.mm_rules.specs.declared.config.Config.{Config}
use Rattle.mm_rules.specs.TableState.{TableState}
use Rattle.mm_rules.specs.Laws.{AtRest}
use Rattle.mm_rules.specs.TakeBack.{HasNoVictim}
use Rattle.mm_rules.proofs.States.Rest.{opening_at_rest}
use Rattle.mm_rules.proofs.States.TakeBack.{opening_convicts_none}
use Rattle.mm_settled.specs.private.Lists.{Fits}
use Rattle.mm_settled.proofs.settled.SettledTable.open.Goals as goal

pub invariant_of-result : goal.invariant_of-result
invariant_of-result c =
    let opened = c.in_ok-table.ensures in
    record {
      rest = subst (λ (s : TableState). AtRest s) (sym opened.1) (opening_at_rest c.args.config opened.0);
      none = subst (λ (s : TableState). HasNoVictim s) (sym opened.1) (λ v. opening_convicts_none c.args.config v);
      fits = subst (λ (f : Config). Fits f c.in_ok-lists.lists) (sym (ap (λ (s : TableState). s.config) opened.1)) c.in_ok-lists.ensures.fits;
      told_at = omega (arith);
    }
