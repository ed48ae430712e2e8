use Rattle.std.proofs.Common.{subst}
use Rattle.mm_transactions.specs.Transactions.{WaitsAreLawful}
use Rattle.mm_transactions.proofs.Lemmas.Lawful.{lawful}
use Rattle.mm_transactions.proofs.transactions.Transactions.keeps_laws.Goals as goal

pub returns : goal.returns
returns c = subst WaitsAreLawful c.self.view_is (lawful c.self.inside.arrivals.items c.self.inside.slots c.self.inside.queues c.self.inside.latest c.self.inside.waiting c.self.invariant)
