-- What is left for the ends of a table's transactions, so that none is refused.
use Rattle.std.specs.Prelude.{◌≤◌, ℕ, ◌+◌, ◌*◌, ◌^◌, length, count_by, is_some}
use Rattle.mm_rules.specs.TableState.{TableState, public_of}
use Rattle.mm_manager.specs.Permit.{requests_met}
use Rattle.mm_manager.specs.declared.totals.Totals.{Totals}

-- the counter of each public label, with one more for each wait, is at most this: a hand-over makes counters that are greater by one, and ends a wait
abbrev pub LabelsWithin : TableState → ℕ → Type 0
LabelsWithin s most = (p : ℕ) → (public_of s p).counter + length s.waits ≤ most

-- so it is for each request that met another owner: two are the most that one takes
abbrev pub LabelsAreCounted : TableState → Totals → Type 0
LabelsAreCounted s t = LabelsWithin s (2 * requests_met t)

-- labels are left for one more request that meets another owner
abbrev pub HasLabels : TableState → Type 0
HasLabels s = (p : ℕ) → (public_of s p).counter + length s.waits + 2 ≤ s.config.label_limit

-- the waits and the owned numbers: a hand-over makes them no more, and that of an owned number makes them fewer
abbrev pub held : TableState → ℕ
held s = length s.waits + count_by is_some s.owners

-- those, and the live transactions: each end makes them fewer
abbrev pub to_end : TableState → ℕ
to_end s = held s + count_by (λ b. b) s.live

-- labels and counts are left for every end
pub record HasReserve (s : TableState) : Type 0 where
  pub labels : LabelsWithin s s.config.label_limit
  pub events : s.totals.accepted + 2 * to_end s + 65536 ≤ 2 ^ 62
  pub aborts : s.totals.aborts ≤ s.totals.accepted
