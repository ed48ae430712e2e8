use Rattle.mm_rules.specs.Event.{Begin}
use Rattle.mm_clients.proofs.Counted.{counts_event}
use Rattle.mm_clients.proofs.alone.TableSteps.begin.Goals as goal

pub returns : goal.returns
returns c = counts_event c.args.self.now c.begin.new.self Begin c.begin.result c.begin.ensures
