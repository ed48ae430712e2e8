-- Walks: each process has one holder, a walk to a waiting process begins at one, and a walk stays one in another graph that has its steps.
use Rattle.std.specs.Prelude.{ℕ, ◌≢◌, ◌≡◌, List, [], ◌∷◌}
use Rattle.mm_rules.specs.Graph.{Graph, WaitsFor, IsActive, IsWaiting, Walk, Relays}

pub one_holder : (g : Graph) (k i j : ℕ) → WaitsFor g k i → WaitsFor g k j → i ≡ j
one_holder g k i j first second = cc

pub active_waits_not : (g : Graph) (k : ℕ) → IsActive g k → IsWaiting g k → ⊥
active_waits_not g k active (h, waits) = cc

pub walk_again : (g new : Graph) (Each Every : ℕ → Type 0) → ((k h : ℕ) → WaitsFor g k h → Each k → Every k × WaitsFor new k h)
    → (n : ℕ) (places : List ℕ) (m : ℕ) → Walk g Each n places m → Walk new Every n places m
walk_again g new Each Every step n [] m walk = walk
walk_again g new Each Every step n (h ∷ places) m (each, waits, rest) =
    let now : Every n × WaitsFor new n h = step n h waits each in
    (now.0, now.1, walk_again g new Each Every step h places m rest)

-- k, which is not m, relays the label L that came from m
abbrev pub OnTheWay : Graph → ℕ → ℕ → ℕ → Type 0
OnTheWay g L m k = (k ≢ m) × Relays g L k

-- a walk to a waiting process begins at a waiting one
pub begins_waiting : (g : Graph) (Each : ℕ → Type 0) (n : ℕ) (places : List ℕ) (m : ℕ) → Walk g Each n places m → IsWaiting g m → IsWaiting g n
begins_waiting g Each n [] m end waiting = rw end waiting
begins_waiting g Each n (h ∷ places) m walk waiting = (h, walk.1)
