use Rattle.std.proofs.Common.{◌≡◌, ◌<◌, ℕ, [], Some, slice_get}
use Rattle.mm_thin.specs.declared.views.RecordView.{RecordView}
use Rattle.mm_thin.proofs.worker.Worker.idle_below.Given as goal

-- no record below this one is so
abbrev pub invariant-loop-k : goal.invariant-loop-k
invariant-loop-k l = (j : ℕ) (r : RecordView) → j < l.k → slice_get l.self.records j ≡ Some r → r.taken ≡ [] → ⊥
