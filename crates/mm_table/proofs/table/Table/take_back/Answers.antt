use Rattle.std.proofs.Common.{◌≡◌, IsTrue, sym, ap, subst}
use Rattle.mm_rules.specs.TableState.{TableState, has_verdict}
use Rattle.mm_rules.specs.Laws.{Laws}
use Rattle.mm_rules.specs.Change.{take_back}
use Rattle.mm_rules.proofs.States.TakeBack.{take_back_keeps_laws}
use Rattle.mm_table.proofs.Fields.Table.{touch_keeps_lawful}
use Rattle.mm_table.proofs.table.Table.take_back.Goals as goal

pub invariant_of-self : goal.invariant_of-self
invariant_of-self c =
    let s = c.self.inside.records in
    let t = c.let_go_on.new.self in
    let n = c.args.key.process in
    let is : t ≡ take_back s n = c.let_go_on.ensures.state in
    touch_keeps_lawful c.self.inside t (subst (λ (u : TableState). Laws u) (sym is) (take_back_keeps_laws s n c.self.invariant.laws (subst (λ (u : TableState). IsTrue (has_verdict u n)) (sym c.self.view_is) c.requires.verdict))) (ap (λ (u : TableState). u.config) is)
    c.self.invariant c.let_go_on.new.touched c.let_go_on.ensures.touched
