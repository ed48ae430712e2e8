use Rattle.mm_rules.proofs.States.Renew.{renew_keeps}
use Rattle.mm_rules.proofs.laws.renew_keeps_laws.Goals as goal

pub returns : goal.returns
returns c = renew_keeps
