use Rattle.mm_rules.proofs.States.Keys.{keys_are_fresh}
use Rattle.mm_rules.proofs.laws.keys_are_fresh.Goals as goal

pub returns : goal.returns
returns c = keys_are_fresh
