use Rattle.std.proofs.Common.{◌<◌, ℕ, length}
use Rattle.std.specs.Prelude.{slice_index}
use Rattle.mm_desk.specs.Calls.{KeepsManager, LoansEnd, NumberIsFree}
use Rattle.mm_desk.proofs.desk.Desk.has_loans.Given as goal

abbrev pub invariant-loop-k : goal.invariant-loop-k
invariant-loop-k l = KeepsManager l.fn.self l.self × ((j : ℕ) → j < l.k → j < length l.numbers.items → NumberIsFree l.self l.key (slice_index l.numbers.items j)) × LoansEnd l.fn.self l.self
