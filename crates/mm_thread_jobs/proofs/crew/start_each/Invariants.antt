use Rattle.std.specs.Prelude.{◌≡◌, ◌+◌, vec_len, vec_capacity}
use Rattle.std.specs.Vec.Iter.{into_iter_len}
use Rattle.mm_thread_jobs.proofs.crew.start_each.Given as goal

abbrev pub invariant-loop-job : goal.invariant-loop-job
invariant-loop-job g l = (vec_capacity l.threads ≡ vec_len l.fn.jobs) × (vec_len l.threads + into_iter_len l.job-iterator ≡ vec_len l.fn.jobs)
