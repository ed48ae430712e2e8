use Rattle.std.proofs.Common.{sym, subst, arith}
use Rattle.mm_rules.specs.TableState.{TableState}
use Rattle.mm_settle_lemmas.specs.Touched.{Touches}
use Rattle.mm_settle_lemmas.proofs.Lemmas.Added.{adds_set}
use Rattle.mm_settle_lemmas.proofs.Lemmas.Told.{touches_counted}
use Rattle.mm_settle_lemmas.proofs.Lemmas.Touched.{touches_activate}
use Rattle.mm_table.proofs.records.Records.give_up.Goals as goal

pub returns-clause-touched : goal.returns-clause-touched
returns-clause-touched c =
    let s = c.args.self.now in
    let n = c.args.key.process in
    let old = c.args.touched.now in
    let new = c.add.new.self in
    let ended : Touches s c.activate.new.self old new =
    subst (λ (t : TableState). Touches s t old new) (sym c.activate.ensures)
    (touches_activate s n old new c.in_ok-may_give_up.ensures.waiting (adds_set old new n (omega (arith, c.in_ok-may_give_up.ensures.in_range, c.requires.sized)) c.add.ensures)) in
    subst (λ (t : TableState). Touches s t old new) (sym c.count.ensures) (touches_counted s c.activate.new.self old new _ ended)
