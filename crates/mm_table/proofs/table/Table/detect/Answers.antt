use Rattle.std.proofs.Common.{sym, subst, refl}
use Rattle.mm_rules.specs.TableState.{TableState}
use Rattle.mm_rules.specs.Change.{detect}
use Rattle.mm_rules.specs.Event.{Detect}
use Rattle.mm_settle_lemmas.specs.Steps.Changed.{AreChanged}
use Rattle.mm_settle_lemmas.proofs.Lemmas.Changed.{changes_keep, changes_detect}
use Rattle.mm_table.proofs.Fields.Table.{counted_changed, step_keeps_table}
use Rattle.mm_table.proofs.table.Table.detect.Goals as goal

pub invariant_of-self : goal.invariant_of-self
invariant_of-self c =
    let old = c.self.inside in
    let s = old.records in
    let n = c.args.key.process in
    let detects = changes_keep s (detect s n) old.sets.changed old.sets.changed (changes_detect s n old.sets.changed) c.self.invariant.changed in
    step_keeps_table (Detect c.args.key) old c.detect.new.self c.detect.result c.detect.ensures c.self.invariant old.sets.changed old.sets.touched
    (subst (λ (t : TableState). AreChanged t old.sets.changed) (sym c.detect.ensures.1) (counted_changed _ s _ (detect s n) old.sets.changed c.self.invariant.changed detects))
    refl refl c.self.invariant.touched_none
