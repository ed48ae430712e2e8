use Rattle.mm_rules.proofs.States.NoVictim.{only_waits_close_cycles}
use Rattle.mm_rules.proofs.laws.only_waits_close_cycles.Goals as goal

pub returns : goal.returns
returns c = only_waits_close_cycles
