-- The three changes of the wait-for graph of which each event consists.
use Rattle.std.specs.Prelude.{ℕ, ◌≡◌, ◌≢◌, ◌≤◌, ◌<◌, ◌⊎◌}
use Rattle.std.proofs.Common.{sym, ◌∙◌}
use Rattle.mm_rules.specs.Graph.{Graph, WaitsFor, IsActive, IsWaiting}

-- k waits for the same and has the same labels in both graphs
pub record SameAt (g new : Graph) (k : ℕ) : Type 0 where
  pub holder : new.holder k ≡ g.holder k
  pub private : new.private k ≡ g.private k
  pub public : new.public k ≡ g.public k

-- n, which was active, comes to wait for h, with a label L that is greater than its public one and that nobody else has
pub record Blocks (g : Graph) (n h L : ℕ) (new : Graph) : Type 0 where
  pub was_active : IsActive g n
  pub within : (n < g.processes) × (h < g.processes)
  pub apart : n ≢ h
  pub above : g.public n < L
  pub fresh : (k : ℕ) → k < g.processes → k ≢ n → (g.private k ≢ L) × (g.public k ≢ L)
  pub processes : new.processes ≡ g.processes
  pub waits : WaitsFor new n h
  pub private_now : new.private n ≡ L
  pub public_now : new.public n ≡ L
  pub others : (k : ℕ) → k ≢ n → SameAt g new k

-- n, which waits for h, takes the greater public label of h
pub record Raises (g : Graph) (n h : ℕ) (new : Graph) : Type 0 where
  pub waits : WaitsFor g n h
  pub below : g.public n < g.public h
  pub processes : new.processes ≡ g.processes
  pub public_now : new.public n ≡ g.public h
  pub holders : (k : ℕ) → new.holder k ≡ g.holder k
  pub privates : (k : ℕ) → new.private k ≡ g.private k
  pub publics : (k : ℕ) → k ≢ n → new.public k ≡ g.public k

-- n shows no waiting process's own label, and whoever is waited for shows no greater label than who waits for it, or its own
pub record Loose (g : Graph) (n : ℕ) : Type 0 where
  pub unowned : (m : ℕ) → IsWaiting g m → g.private m ≢ g.public n
  pub falls : (k h : ℕ) → WaitsFor g k h → (g.public h ≤ g.public k) ⊎ (g.public h ≡ g.private h)

-- why a process may stop to wait for h: h is active, or n shows its own label, or none that a waiting process can get back
abbrev pub MayActivate : Graph → ℕ → ℕ → Type 0
MayActivate g n h = IsActive g h ⊎ ((g.public n ≡ g.private n) ⊎ Loose g n)

-- n, which waited for h, waits no more
pub record Activates (g : Graph) (n h : ℕ) (new : Graph) : Type 0 where
  pub waited : WaitsFor g n h
  pub may : MayActivate g n h
  pub processes : new.processes ≡ g.processes
  pub now_active : IsActive new n
  pub holders : (k : ℕ) → k ≢ n → new.holder k ≡ g.holder k
  pub privates : (k : ℕ) → new.private k ≡ g.private k
  pub publics : (k : ℕ) → new.public k ≡ g.public k

pub same_then : (a b c : Graph) (k : ℕ) → SameAt a b k → SameAt b c k → SameAt a c k
same_then a b c k first second =
    record { holder = second.holder ∙ first.holder; private = second.private ∙ first.private; public = second.public ∙ first.public }

pub same_back : (a b : Graph) (k : ℕ) → SameAt a b k → SameAt b a k
same_back a b k same = record { holder = sym same.holder; private = sym same.private; public = sym same.public }

-- two graphs that are the same at each process are one
pub same_graph : (g new : Graph) → new.processes ≡ g.processes → ((k : ℕ) → SameAt g new k) → new ≡ g
same_graph g new processes same = λ i. record {
  processes = processes i;
  holder = λ k. (same k).holder i;
  private = λ k. (same k).private i;
  public = λ k. (same k).public i;
}
