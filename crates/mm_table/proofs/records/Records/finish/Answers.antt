use Rattle.std.proofs.Common.{◌<◌, rules, ap, sym, subst, ◌∙◌}
use Rattle.mm_rules.specs.TableState.{TableState}
use Rattle.mm_rules.proofs.States.Totals.{vacate_totals}
use Rattle.mm_settle_lemmas.specs.Touched.{Touches}
use Rattle.mm_settle_lemmas.proofs.Lemmas.Told.{touches_counted}
use Rattle.mm_table.proofs.records.Records.finish.Goals as goal

pub count-requires : goal.count-requires
count-requires c =
    let same = ap (λ s. s.totals.accepted) c.vacate.ensures.state ∙ ap (λ t. t.accepted) (vacate_totals c.args.self.now c.args.key.process) in
    subst (λ n. n < 4611686018427387904) (sym same) (search rules)

pub returns-clause-touched : goal.returns-clause-touched
returns-clause-touched c =
    let s = c.args.self.now in
    let old = c.args.touched.now in
    let new = c.vacate.new.touched in
    subst (λ (t : TableState). Touches s t old new) (sym c.count.ensures) (touches_counted s c.vacate.new.self old new _ c.vacate.ensures.touched.touches)
