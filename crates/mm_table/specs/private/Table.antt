-- What holds of every `Table`.
use Rattle.std.specs.Prelude.{◌≡◌, length}
use Rattle.mm_rules.specs.Laws.{Laws}
use Rattle.mm_settle_lemmas.specs.Steps.Changed.{AreChanged}
use Rattle.mm_settle_lemmas.specs.Steps.Marked.{SetsAreSized, IsNoneMarked}
use Rattle.mm_table.specs.declared.table.Table.TheInside.{Inside}

-- all laws; each process that may transmit or newly detect is among the changed, or its holder is; each set has a place for each process
pub record IsLawfulTable (t : Inside) : Type 0 where
  pub laws : Laws t.records
  pub changed : AreChanged t.records t.sets.changed
  pub sized : SetsAreSized t.records t.sets.changed t.sets.pending t.sets.checks
  pub touched_sized : length t.sets.touched ≡ t.records.config.processes
  pub touched_none : IsNoneMarked t.sets.touched
