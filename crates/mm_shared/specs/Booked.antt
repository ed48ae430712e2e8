-- What is always true of the books behind the lock.
use Rattle.std.specs.Prelude.{ℕ, ◌≡◌}
use Rattle.mm_rules.specs.declared.reply.Totals.{Totals}

-- the totals of the three books are what the table counted: accepted events, verdicts, aborts
abbrev pub Booked : Totals → ℕ → ℕ → ℕ → Type 0
Booked totals accepted verdicts aborts = (accepted ≡ totals.accepted) × (verdicts ≡ totals.verdicts) × (aborts ≡ totals.aborts)
