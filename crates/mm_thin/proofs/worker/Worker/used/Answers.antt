use Rattle.std.proofs.Common.{subst}
use Rattle.mm_thin.specs.Parts.{WorkerState}
use Rattle.mm_thin.specs.Calls.{AreIdleFrom}
use Rattle.mm_thin.proofs.Places.{used_seen}
use Rattle.mm_thin.proofs.worker.Worker.used.Goals as goal

pub returns : goal.returns
returns c = subst (λ (w : WorkerState). AreIdleFrom c.self.inside.used w.records) c.self.view_is (used_seen c.self.inside.buckets c.self.inside.at c.self.inside.places.items c.self.inside.used c.self.invariant)
