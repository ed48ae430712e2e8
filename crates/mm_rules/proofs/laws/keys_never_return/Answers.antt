use Rattle.mm_rules.proofs.States.Keys.{keys_never_return}
use Rattle.mm_rules.proofs.laws.keys_never_return.Goals as goal

pub returns : goal.returns
returns c = keys_never_return
