use Rattle.std.proofs.Common.{◌+◌, sym, ap, subst, ◌∙◌}
use Rattle.mm_rules.specs.TableState.{TableState}
use Rattle.mm_rules.proofs.States.Outcome.{counting}
use Rattle.mm_settle_lemmas.specs.Touched.{Touches}
use Rattle.mm_settle_lemmas.proofs.Lemmas.Acquired.{touches_grant}
use Rattle.mm_settle_lemmas.proofs.Lemmas.Told.{touches_counted}
use Rattle.mm_table.proofs.Fields.Gives.{gives_granted}
use Rattle.mm_table.proofs.records.Records.grant_free.Goals as goal

pub returns-clause-step : goal.returns-clause-step
returns-clause-step c =
    let gives = gives_granted c.args.self.now c.args.key c.args.resource c.requires.passed c.requires.free in
    (gives.0, c.count.ensures ∙ ap (λ (t : TableState). counting t (t.totals.accepted + 1)) c.grant.ensures ∙ gives.1)

pub returns-clause-touched : goal.returns-clause-touched
returns-clause-touched c =
    let s = c.args.self.now in
    λ set.
    subst (λ (t : TableState). Touches s t set set) (sym c.count.ensures)
    (touches_counted s c.grant.new.self set set _
    (subst (λ (t : TableState). Touches s t set set) (sym c.grant.ensures) (touches_grant s c.args.key c.args.resource set c.requires.laws.lawful.well_formed c.requires.free)))
