-- What each call adds to the counts, by its answer. A refused call adds nothing.
use Rattle.std.specs.Prelude.{ℕ, ◌+◌, Result, Ok, Err}
use Rattle.mm_arena.specs.declared.key.Key.{Key}
use Rattle.mm_manager.specs.declared.refusal.Refusal.{Refusal}
use Rattle.mm_manager.specs.declared.reply.Lock.{Lock}
use Rattle.mm_manager.specs.declared.reply.Lock.TheVariants as lock
use Rattle.mm_manager.specs.declared.totals.Totals.{Totals}

-- nothing was counted
abbrev pub nothing_counted : Totals
nothing_counted = record { begun = 0; committed = 0; aborted = 0; deadlocks = 0; waits = 0; withdrawn = 0 }

-- the sum of the counts
abbrev pub all_of : Totals → ℕ
all_of t = t.begun + t.committed + t.aborted + t.deadlocks + t.waits + t.withdrawn

abbrev pub after_begin : Totals → Result Key Refusal → Totals
after_begin t (Ok key) = record t { begun = t.begun + 1 }
after_begin t (Err refusal) = t

abbrev pub after_lock : Totals → Result Lock Refusal → Totals
after_lock t (Ok (lock.Deadlock h)) = record t { deadlocks = t.deadlocks + 1 }
after_lock t (Ok (lock.Waits h)) = record t { waits = t.waits + 1 }
after_lock t (Ok lock.Granted) = t
after_lock t (Ok lock.Held) = t
after_lock t (Err refusal) = t

abbrev pub after_commit : Totals → Result (Unit {0}) Refusal → Totals
after_commit t (Ok done) = record t { committed = t.committed + 1 }
after_commit t (Err refusal) = t

abbrev pub after_abort : Totals → Result (Unit {0}) Refusal → Totals
after_abort t (Ok done) = record t { aborted = t.aborted + 1 }
after_abort t (Err refusal) = t

abbrev pub after_cancel : Totals → Result (Unit {0}) Refusal → Totals
after_cancel t (Ok done) = record t { withdrawn = t.withdrawn + 1 }
after_cancel t (Err refusal) = t
