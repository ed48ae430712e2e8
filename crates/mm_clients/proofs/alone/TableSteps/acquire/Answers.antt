use Rattle.mm_rules.specs.Event.{Acquire}
use Rattle.mm_clients.proofs.Counted.{counts_event}
use Rattle.mm_clients.proofs.alone.TableSteps.acquire.Goals as goal

pub returns : goal.returns
returns c = counts_event c.args.self.now c.acquire.new.self (Acquire c.args.key c.args.resource) c.acquire.result c.acquire.ensures
