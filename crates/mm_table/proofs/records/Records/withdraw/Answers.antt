use Rattle.std.proofs.Common.{◌≡◌, sym, ap, subst, ◌∙◌, arith}
use Rattle.mm_rules.specs.TableState.{TableState}
use Rattle.mm_rules.specs.Change.{activate}
use Rattle.mm_settle_lemmas.specs.Touched.{Touches}
use Rattle.mm_settle_lemmas.proofs.Lemmas.Added.{adds_set}
use Rattle.mm_settle_lemmas.proofs.Lemmas.Told.{touches_counted}
use Rattle.mm_table.proofs.Fields.Withdraw.{touches_withdraw, adds_sized}
use Rattle.mm_table.specs.private.Renewal.{renewed}
use Rattle.mm_table.proofs.records.Records.withdraw.Goals as goal

pub returns-clause-touched : goal.returns-clause-touched
returns-clause-touched c =
    let s = c.args.self.now in
    let n = c.args.key.process in
    let old = c.args.touched.now in
    let mid = c.renew.new.touched in
    let new = c.add.new.self in
    let r = c.in_ok-renewal.renewal in
    let ok = c.in_ok-renewal.ensures in
    let sized = adds_sized r old mid c.renew.ensures.touched in
    let done : Touches s (activate (renewed s r) n) old new =
    touches_withdraw s n r old mid new c.requires.laws ok.waiting ok.renewal c.renew.ensures.touched (adds_set mid new n (omega (arith, ok.in_range, c.requires.sized, sized)) c.add.ensures) in
    let is : c.activate.new.self ≡ activate (renewed s r) n = c.activate.ensures ∙ ap (λ (t : TableState). activate t n) c.renew.ensures.state in
    subst (λ (t : TableState). Touches s t old new) (sym c.count.ensures) (touches_counted s c.activate.new.self old new _ (subst (λ (t : TableState). Touches s t old new) (sym is) done))
