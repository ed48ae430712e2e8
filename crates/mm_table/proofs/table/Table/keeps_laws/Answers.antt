use Rattle.std.proofs.Common.{subst}
use Rattle.mm_rules.specs.Laws.{Laws}
use Rattle.mm_table.proofs.table.Table.keeps_laws.Goals as goal

pub returns : goal.returns
returns c = subst Laws c.self.view_is c.self.invariant.laws
