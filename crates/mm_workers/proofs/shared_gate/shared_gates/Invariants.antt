use Rattle.std.specs.Prelude.{◌≡◌, ◌≤◌, vec_len, vec_capacity}
use Rattle.mm_workers.proofs.shared_gate.shared_gates.Given as goal

abbrev pub invariant-loop-worker : goal.invariant-loop-worker
invariant-loop-worker g l = (vec_len l.gates ≡ l._worker) × (l.fn.workers ≤ vec_capacity l.gates)
