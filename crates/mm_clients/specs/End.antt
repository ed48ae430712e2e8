-- How clients end.
use Rattle.std.specs.Prelude.{ℕ, Bool, true, false, cond}
use Rattle.mm_clients.specs.declared.end.End.{End}
use Rattle.mm_clients.specs.declared.end.End.TheVariants.{Finished, Aborted, Spent, Refused}

-- the client was aborted
abbrev pub is_aborted : End → Bool
is_aborted Aborted = true
is_aborted e = false

-- how many aborts a client makes that ends so: one, or none
abbrev pub aborts_of : End → ℕ
aborts_of e = cond (is_aborted e) 1 0

-- the other ends
abbrev pub is_finished : End → Bool
is_finished Finished = true
is_finished e = false

abbrev pub is_spent : End → Bool
is_spent Spent = true
is_spent e = false

abbrev pub is_refused : End → Bool
is_refused (Refused number) = true
is_refused e = false

-- another transaction may follow one that ends so
abbrev pub ends_well : End → Bool
ends_well Finished = true
ends_well Aborted = true
ends_well e = false
