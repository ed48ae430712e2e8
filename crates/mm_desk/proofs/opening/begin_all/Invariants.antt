use Rattle.std.proofs.Common.{◌≡◌, ◌≤◌, length}
use Rattle.mm_desk.specs.Calls.{HasNoNames}
use Rattle.mm_desk.proofs.opening.begin_all.Given as goal

abbrev pub invariant-loop : goal.invariant-loop
invariant-loop l = HasNoNames l.books.manager × (l.books.spread ≡ l.fn.books.spread) × (length l.keys.items ≤ l.counter) × (l.workers ≤ l.keys.cap)
