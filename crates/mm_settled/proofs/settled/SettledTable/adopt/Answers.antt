use Rattle.std.proofs.Common.{◌≡◌, sym, subst, ap}
use Rattle.mm_rules.specs.declared.config.Config.{Config}
use Rattle.mm_rules.specs.TableState.{TableState}
use Rattle.mm_rules.proofs.States.Adopt.{adopt_stays_at_rest}
use Rattle.mm_settled.specs.private.Lists.{Fits}
use Rattle.mm_settled.proofs.settled.SettledTable.adopt.Goals as goal

pub invariant_of-self : goal.invariant_of-self
invariant_of-self c =
    let was = c.self.inside in
    let config : c.adopt.new.self.config ≡ was.parts.table.config = ap (λ (s : TableState). s.config) c.adopt.ensures.state in
    record {
      rest = adopt_stays_at_rest c.args.key c.args.resource was.parts.table c.adopt.new.self c.adopt.ensures c.keeps_laws.ensures c.self.invariant.rest;
      none = rw c.adopt.ensures.state c.self.invariant.none;
      fits = subst (λ (f : Config). Fits f was.parts.lists) (sym config) c.self.invariant.fits;
      told_at = rw c.adopt.ensures.state c.self.invariant.told_at;
    }
