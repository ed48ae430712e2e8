use Rattle.mm_rules.proofs.States.SoundVerdicts.{quiet_no_cycle}
use Rattle.mm_rules.proofs.laws.quiet_has_no_cycle.Goals as goal

pub returns : goal.returns
returns c = quiet_no_cycle
