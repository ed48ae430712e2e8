-- What holds of every settled table.
use Rattle.std.specs.Prelude.{◌≤◌, [], if◌then◌else◌}
use Rattle.mm_rules.specs.Laws.{AtRest}
use Rattle.mm_rules.specs.TakeBack.{HasNoVictim}
use Rattle.mm_settled.specs.declared.settled.SettledTable.TheInside.{Inside}
use Rattle.mm_settled.specs.private.Lists.{Fits}
use Rattle.mm_settled.specs.private.Told.{is_told}
use Rattle.mm_settled.specs.SettledState.{SettledState}

-- what a contract sees: if an event has been accepted since the grants were listed, the list means nothing
abbrev pub state_of : Inside → SettledState
state_of t = record {
  table = t.parts.table;
  granted = if is_told t.told_at t.parts.table then t.parts.lists.granted.items else [];
  ended = t.parts.lists.owned.items;
}

-- the table is at rest, no verdict stands, there is room for its lists, and the grants were listed once as many events had been accepted as now, or fewer
pub record IsSettledTable (t : Inside) : Type 0 where
  pub rest : AtRest t.parts.table
  pub none : HasNoVictim t.parts.table
  pub fits : Fits t.parts.table.config t.parts.lists
  pub told_at : t.told_at ≤ t.parts.table.totals.accepted
