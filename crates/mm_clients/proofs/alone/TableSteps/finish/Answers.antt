use Rattle.mm_rules.specs.Event.{Finish}
use Rattle.mm_clients.proofs.Counted.{counts_event}
use Rattle.mm_clients.proofs.alone.TableSteps.finish.Goals as goal

pub returns : goal.returns
returns c = counts_event c.args.self.now c.finish.new.self (Finish c.args.key) c.finish.result c.finish.ensures
