use Rattle.std.proofs.Common.{subst}
use Rattle.mm_rules.specs.TakeBack.{NobodyWaitsForItself}
use Rattle.mm_rules.proofs.States.TakeBack.{rest_has_no_cycle}
use Rattle.mm_settled.specs.SettledState.{SettledState}
use Rattle.mm_settled.proofs.settled.SettledTable.is_at_rest.Goals as goal

pub returns-clause-apart : goal.returns-clause-apart
returns-clause-apart c =
    subst (λ (view : SettledState). NobodyWaitsForItself view.table) c.self.view_is (rest_has_no_cycle c.self.inside.parts.table c.self.invariant.rest c.self.invariant.none)
