use Rattle.std.specs.Prelude.{◌≡◌, ◌+◌, vec_len, vec_capacity}
use Rattle.std.specs.Vec.Iter.{into_iter_len}
use Rattle.mm_thread_jobs.proofs.crew.join_all.Given as goal

abbrev pub invariant-loop-thread : goal.invariant-loop-thread
invariant-loop-thread g l = (vec_capacity l.results ≡ vec_len l.fn.threads) × (vec_len l.results + into_iter_len l.thread-iterator ≡ vec_len l.fn.threads)
