use Rattle.std.proofs.Common.{◌<◌, rules, ap, sym, subst, ◌∙◌}
use Rattle.mm_rules.specs.TableState.{TableState}
use Rattle.mm_rules.proofs.States.Totals.{hand_over_totals}
use Rattle.mm_settle_lemmas.specs.Touched.{Touches}
use Rattle.mm_settle_lemmas.proofs.Lemmas.Touched.{touches_hand_over}
use Rattle.mm_settle_lemmas.proofs.Lemmas.Told.{touches_counted}
use Rattle.mm_table.proofs.records.Records.release.Goals as goal

pub count-requires : goal.count-requires
count-requires c =
    let same = ap (λ s. s.totals.accepted) c.hand_over-answer.ensures.state ∙ ap (λ t. t.accepted) (hand_over_totals c.args.self.now c.args.resource) in
    subst (λ n. n < 4611686018427387904) (sym same) (search rules)

pub returns-clause-touched : goal.returns-clause-touched
returns-clause-touched c =
    let s = c.args.self.now in
    let r = c.args.resource in
    let old = c.args.touched.now in
    let new = c.hand_over-answer.new.touched in
    subst (λ (t : TableState). Touches s t old new) (sym c.count.ensures)
    (touches_counted s c.hand_over-answer.new.self old new _
    (subst (λ (t : TableState). Touches s t old new) (sym c.hand_over-answer.ensures.state) (touches_hand_over s r c.requires.laws old new c.hand_over-answer.ensures.touched)))
