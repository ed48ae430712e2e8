use Rattle.mm_rules.specs.Event.{Transmit}
use Rattle.mm_clients.proofs.Counted.{counts_event}
use Rattle.mm_clients.proofs.alone.TableSteps.transmit.Goals as goal

pub returns : goal.returns
returns c = counts_event c.args.self.now c.transmit.new.self (Transmit c.args.key) c.transmit.result c.transmit.ensures
