use Rattle.std.proofs.Common.{◌≡◌, ◌≤◌, length}
use Rattle.mm_thin.proofs.buckets.blank_texts.Given as goal

abbrev pub invariant-loop : goal.invariant-loop
invariant-loop l = (length l.texts.items ≡ l.counter) × (l.count ≤ l.texts.cap)
