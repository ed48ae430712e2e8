use Rattle.mm_rules.specs.Event.{Settle}
use Rattle.mm_clients.proofs.Counted.{counts_event}
use Rattle.mm_clients.proofs.alone.TableSteps.settle.Goals as goal

pub returns : goal.returns
returns c = counts_event c.args.self.now c.settle.new.self Settle c.settle.result c.settle.ensures
