use Rattle.mm_rules.specs.Event.{Abort}
use Rattle.mm_clients.proofs.Counted.{counts_event}
use Rattle.mm_clients.proofs.alone.TableSteps.abort.Goals as goal

pub returns : goal.returns
returns c = counts_event c.args.self.now c.abort.new.self (Abort c.args.key) c.abort.result c.abort.ensures
