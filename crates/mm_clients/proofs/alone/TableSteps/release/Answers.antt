use Rattle.mm_rules.specs.Event.{Release}
use Rattle.mm_clients.proofs.Counted.{counts_event}
use Rattle.mm_clients.proofs.alone.TableSteps.release.Goals as goal

pub returns : goal.returns
returns c = counts_event c.args.self.now c.release.new.self (Release c.args.key c.args.resource) c.release.result c.release.ensures
