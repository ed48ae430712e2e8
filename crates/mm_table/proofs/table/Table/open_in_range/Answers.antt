use Rattle.std.proofs.Common.{◌≡◌, Bool, List, length, replicate, false, sym, subst, ap, ◌∙◌}
use Rattle.std.proofs.lemmas.List.{length-replicate}
use Rattle.mm_rules.specs.TableState.{TableState}
use Rattle.mm_rules.specs.Laws.{Laws}
use Rattle.mm_rules.proofs.States.Opening.{opening_lawful}
use Rattle.mm_settle_lemmas.specs.Steps.Changed.{AreChanged}
use Rattle.mm_table.proofs.Fields.Table.{emptied, opened_changed}
use Rattle.mm_table.proofs.table.Table.open_in_range.Goals as goal

pub invariant_of-result : goal.invariant_of-result
invariant_of-result c =
    let opened = c.in_ok-records.ensures.opened in
    let processes = c.args.config.processes in
    let sized : (set : List Bool) → set ≡ replicate processes false → length set ≡ c.in_ok-records.records.config.processes = λ set is. ap length is ∙ length-replicate processes false ∙ sym (ap (λ (s : TableState). s.config.processes) opened) in
    record {
      laws = subst Laws (sym opened) (opening_lawful c.args.config c.requires);
      changed = subst (λ (s : TableState). AreChanged s c.in-Ok.sets.changed) (sym opened) (opened_changed c.args.config c.in-Ok.sets.changed);
      sized = record {
        changed_sized = sized c.in-Ok.sets.changed c.in-Ok.ensures.changed;
        pending_sized = sized c.in-Ok.sets.pending c.in-Ok.ensures.pending;
        checks_sized = sized c.in-Ok.sets.checks c.in-Ok.ensures.checks;
      };
      touched_sized = sized c.in-Ok.sets.touched c.in-Ok.ensures.touched;
      touched_none = emptied c.in-Ok.sets.touched processes c.in-Ok.ensures.touched;
    }
