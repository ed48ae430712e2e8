-- The wait-for graph: the waits, and two labels of each process, as numbers in one order. Processes are the numbers below `processes`.
use Rattle.std.specs.Prelude.{ℕ, Option, Some, None, ◌≡◌, ◌≢◌, ◌≤◌, ◌<◌, ◌⊎◌, List, [], ◌∷◌, length, ⊤}
use Rattle.mm_lists.specs.Members.{Among, NoRepeat}

pub record Graph : Type 0 where
  pub processes : ℕ
  pub holder : ℕ → Option ℕ  -- the process that owns what this one waits for
  pub private : ℕ → ℕ
  pub public : ℕ → ℕ

-- k waits, and h is its holder
abbrev pub WaitsFor : Graph → ℕ → ℕ → Type 0
WaitsFor g k h = g.holder k ≡ Some h

abbrev pub IsWaiting : Graph → ℕ → Type 0
IsWaiting g k = (h : ℕ) × WaitsFor g k h

abbrev pub IsActive : Graph → ℕ → Type 0
IsActive g k = g.holder k ≡ None

-- ---- paths along the waits

-- from n along the holders, by the places after n, to m; each process that is left on the way is as `Each` says
abbrev pub Walk : Graph → (ℕ → Type 0) → ℕ → List ℕ → ℕ → Type 0
Walk g Each n [] m = n ≡ m
Walk g Each n (h ∷ places) m = Each n × WaitsFor g n h × Walk g Each h places m

abbrev pub Path : Graph → ℕ → List ℕ → ℕ → Type 0
Path g n places m = Walk g (λ _. ⊤) n places m

-- the places after v lead back to v, which is the last of them, and none stands there twice
pub record Cycle (g : Graph) (v : ℕ) (places : List ℕ) : Type 0 where
  pub closed : Path g v places v
  pub moves : 0 < length places
  pub simple : NoRepeat places

-- ---- labels along the waits

-- k relays L: its own label is older than L, and it shows L or a greater label
pub record Relays (g : Graph) (L k : ℕ) : Type 0 where
  pub older : g.private k < L
  pub shown : L ≤ g.public k

-- L was propagated from m to n: there is a path from n to m, on which each process before m relays it
pub record Propagated (g : Graph) (L n m : ℕ) : Type 0 where
  pub apart : n ≢ m
  pub places : List ℕ
  pub along : Walk g (λ k. (k ≢ m) × Relays g L k) n places m

-- a process at which L goes no further
abbrev pub Tops : Graph → ℕ → ℕ → Type 0
Tops g L j = (IsActive g j × (L ≤ g.public j)) ⊎ (IsWaiting g j × (L ≤ g.private j))

-- along the waits from k, k included, stands a process that tops k's public label
pub record Topped (g : Graph) (k : ℕ) : Type 0 where
  pub top : ℕ
  pub places : List ℕ
  pub along : Path g k places top
  pub tops : Tops g (g.public k) top

-- v waits for h, and v's own label has come round to h
pub record LabelReturned (g : Graph) (v h : ℕ) : Type 0 where
  pub waits : WaitsFor g v h
  pub own : g.private v ≡ g.public v
  pub back : g.public v ≡ g.public h

-- v is on a cycle of waits, every other process of it has a smaller private label, and all of it show one public label
pub record Deadlocked (g : Graph) (v : ℕ) : Type 0 where
  pub places : List ℕ
  pub cycle : Cycle g v places
  pub greatest : (k : ℕ) → Among k places → k ≢ v → g.private k < g.private v
  pub one_label : (k : ℕ) → Among k places → g.public k ≡ g.public v

-- L is the greatest public label of k and of the processes along its waits
pub record IsGreatest (g : Graph) (k L : ℕ) : Type 0 where
  pub bound : (places : List ℕ) (x : ℕ) → Path g k places x → g.public x ≤ L
  pub place : ℕ
  pub places : List ℕ
  pub along : Path g k places place
  pub met : g.public place ≡ L

-- ---- laws

-- public labels rise along the waits, up to a process that shows its own
abbrev pub RisingLaw : Graph → Type 0
RisingLaw g = (k h : ℕ) → WaitsFor g k h → (g.public k ≡ g.private k) ⊎ (g.public k ≤ g.public h)

-- if another process shows the own label of a waiting one, that label came to it along the waits
abbrev pub PropagatedLaw : Graph → Type 0
PropagatedLaw g = (m h n : ℕ) → WaitsFor g m h → n < g.processes → n ≢ m → g.public n ≡ g.private m → Propagated g (g.private m) n m

abbrev pub ToppedLaw : Graph → Type 0
ToppedLaw g = (k h : ℕ) → WaitsFor g k h → Topped g k

-- nobody's holder shows a greater label than its own: no label can be transmitted
abbrev pub IsSettled : Graph → Type 0
IsSettled g = (k h : ℕ) → WaitsFor g k h → g.public h ≤ g.public k
