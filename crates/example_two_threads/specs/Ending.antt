-- What the end of a transaction adds to the aborts.
use Rattle.std.specs.Prelude.{ℕ}
use Rattle.example_two_threads.specs.declared.transaction.Ending.{Ending}
use Rattle.example_two_threads.specs.declared.transaction.Ending.TheVariants.{Finished, Aborted, Refused}

-- one for a transaction that was aborted
abbrev pub aborts_of : Ending → ℕ
aborts_of Finished = 0
aborts_of Aborted = 1
aborts_of (Refused refusal) = 0
