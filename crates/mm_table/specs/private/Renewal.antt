-- A label that a waiting process gets anew.
use Rattle.std.specs.Prelude.{◌≡◌, ◌<◌, ℕ, Option, None, Some, if◌then◌else◌}
use Rattle.mm_rules.specs.TableState.{TableState}
use Rattle.mm_rules.specs.Change.{label_against}
use Rattle.mm_rules.specs.Withdraw.{renew, shown_process, shows_waiting}
use Rattle.mm_table.specs.declared.records.withdraw.Renewal.{Renewal}
use Rattle.mm_table.specs.private.LabelLimit.{labelled}

-- the state once it was given, if there is one
abbrev pub renewed : TableState → Option Renewal → TableState
renewed s None = s
renewed s (Some r) = labelled s r.process r.label

-- the process that gets it is a process of the table, and has some holder
pub record IsRenewal (s : TableState) (r : Renewal) : Type 0 where
  pub within : r.process < s.config.processes
  pub holder : ℕ
  pub label : r.label ≡ label_against s r.process holder

-- s, once the one whose label n shows, and who waits with it, has a new label
abbrev pub let_go : TableState → ℕ → TableState
let_go s n = if shows_waiting s n then renew s (shown_process s n) else s
