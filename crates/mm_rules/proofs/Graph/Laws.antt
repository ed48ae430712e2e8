-- The laws of the wait-for graph, together: those that the specs name, and those that hold the numbers in order.
use Rattle.std.specs.Prelude.{ℕ, ◌≡◌, ◌≢◌, ◌≤◌, ◌<◌}
use Rattle.mm_rules.specs.Graph.{Graph, WaitsFor, RisingLaw, PropagatedLaw, ToppedLaw}

-- no process shows a label older than its own
abbrev pub OrderedLaw : Graph → Type 0
OrderedLaw g = (k : ℕ) → k < g.processes → g.private k ≤ g.public k

-- no two processes have one private label
abbrev pub OwnLaw : Graph → Type 0
OwnLaw g = (i j : ℕ) → i < g.processes → j < g.processes → g.private i ≡ g.private j → i ≡ j

-- who waits, and who is waited for, is a process of the graph
abbrev pub WithinLaw : Graph → Type 0
WithinLaw g = (k h : ℕ) → WaitsFor g k h → (k < g.processes) × (h < g.processes)

-- no process waits for itself
abbrev pub ApartLaw : Graph → Type 0
ApartLaw g = (k h : ℕ) → WaitsFor g k h → k ≢ h

pub record IsLawful (g : Graph) : Type 0 where
  pub ordered : OrderedLaw g
  pub own : OwnLaw g
  pub within : WithinLaw g
  pub apart : ApartLaw g
  pub rising : RisingLaw g
  pub propagated : PropagatedLaw g
  pub topped : ToppedLaw g

-- Each label tells, by `number`, the process that made it. A private label tells its own process, and no label is newer than its maker's private one.
pub record HasLabelMakers (number : ℕ → ℕ) (g : Graph) : Type 0 where
  pub named : (k : ℕ) → k < g.processes → number (g.private k) ≡ k
  pub made : (k : ℕ) → k < g.processes → number (g.public k) < g.processes
  pub newest : (k : ℕ) → k < g.processes → g.public k ≤ g.private (number (g.public k))
