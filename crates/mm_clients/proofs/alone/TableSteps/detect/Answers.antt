use Rattle.mm_rules.specs.Event.{Detect}
use Rattle.mm_clients.proofs.Counted.{counts_event}
use Rattle.mm_clients.proofs.alone.TableSteps.detect.Goals as goal

pub returns : goal.returns
returns c = counts_event c.args.self.now c.detect.new.self (Detect c.args.key) c.detect.result c.detect.ensures
