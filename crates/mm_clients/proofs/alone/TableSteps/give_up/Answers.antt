use Rattle.mm_rules.specs.Event.{GiveUp}
use Rattle.mm_clients.proofs.Counted.{counts_event}
use Rattle.mm_clients.proofs.alone.TableSteps.give_up.Goals as goal

pub returns : goal.returns
returns c = counts_event c.args.self.now c.give_up.new.self (GiveUp c.args.key) c.give_up.result c.give_up.ensures
