use Rattle.std.proofs.Common.{sym, subst, refl}
use Rattle.mm_rules.specs.TableState.{TableState}
use Rattle.mm_rules.specs.Event.{Begin}
use Rattle.mm_settle_lemmas.specs.Steps.Changed.{AreChanged}
use Rattle.mm_table.proofs.Fields.Table.{begun_changed, counted_changed, step_keeps_table}
use Rattle.mm_table.proofs.table.Table.begin.Goals as goal

pub invariant_of-self : goal.invariant_of-self
invariant_of-self c =
    let old = c.self.inside in
    let s = old.records in
    step_keeps_table Begin old c.begin.new.self c.begin.result c.begin.ensures c.self.invariant old.sets.changed old.sets.touched
    (subst (λ (t : TableState). AreChanged t old.sets.changed) (sym c.begin.ensures.1)
    (counted_changed _ s _ _ old.sets.changed c.self.invariant.changed (begun_changed s _ _ old.sets.changed c.self.invariant.changed)))
    refl refl c.self.invariant.touched_none
