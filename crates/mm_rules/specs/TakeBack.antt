-- Take back: who closed a cycle of waits takes back its wait and its verdict, and goes on. It is the first half of an abort (`take_back` of `Change`), and no event of `Event`.
use Rattle.std.specs.Prelude.{ℕ, ◌≡◌, ◌↔◌, List, Some, Ok, IsTrue, IsFalse}
use Rattle.mm_arena.specs.declared.key.Key.{Key}
use Rattle.mm_label.specs.Label.{Label}
use Rattle.mm_rules.specs.declared.reply.Acquired.TheVariants.{Waits}
use Rattle.mm_rules.specs.declared.reply.Settled.{Settled}
use Rattle.mm_rules.specs.TableState.{TableState, owner_of, has_verdict, graph_of}
use Rattle.mm_rules.specs.Change.{take_back}
use Rattle.mm_rules.specs.Event.{Acquire, Settle, Step}
use Rattle.mm_rules.specs.Graph.{Path, WaitsFor}
use Rattle.mm_rules.specs.Laws.{Laws, AtRest}
use Rattle.mm_rules.specs.Victims.{IsOnCycle}

-- no verdict stands
abbrev pub HasNoVictim : TableState → Type 0
HasNoVictim s = (v : ℕ) → IsFalse (has_verdict s v)

-- the waits lead from n to m, directly or over others
abbrev pub LeadsTo : TableState → ℕ → ℕ → Type 0
LeadsTo s n m = (way : List ℕ) × Path (graph_of s) n way m

-- nobody waits for itself, directly or over others
abbrev pub NobodyWaitsForItself : TableState → Type 0
NobodyWaitsForItself s = (n h : ℕ) → WaitsFor (graph_of s) n h → ¬ LeadsTo s h n

-- somebody owns r, and the waits lead from it to k: if k waited for r, that would close a cycle
abbrev pub WouldClose : TableState → Key → ℕ → Type 0
WouldClose s k r = (h : Key) × (owner_of s r ≡ Some h) × LeadsTo s h.process k.process

-- but for labels and counts, t is as s
pub record IsSameButLabels (s t : TableState) : Type 0 where
  pub config : t.config ≡ s.config
  pub generations : t.generations ≡ s.generations
  pub live : t.live ≡ s.live
  pub free : t.free ≡ s.free
  pub owners : t.owners ≡ s.owners
  pub waits : t.waits ≡ s.waits
  pub verdicts : t.verdicts ≡ s.verdicts

-- ---- what is proved of it

-- in any state, one with a verdict may take back its wait
abbrev pub TakeBackKeepsLaws : Type 0
TakeBackKeepsLaws = (s : TableState) (n : ℕ) → Laws s → IsTrue (has_verdict s n) → Laws (take_back s n)

-- and a table at rest stays at rest by that, without a settle
abbrev pub TakeBackStaysAtRest : Type 0
TakeBackStaysAtRest = (s : TableState) (n : ℕ) → Laws s → AtRest s → IsTrue (has_verdict s n) → AtRest (take_back s n)

-- in a table at rest without a verdict nobody waits for itself
abbrev pub RestHasNoCycle : Type 0
RestHasNoCycle = (s : TableState) → AtRest s → HasNoVictim s → NobodyWaitsForItself s

-- who begins to wait closes a cycle exactly if the waits led from its holder to it before
abbrev pub ClosesWhereLedBack : Type 0
ClosesWhereLedBack = (old mid : TableState) (k h : Key) (r : ℕ) (l : Label) → Step (Acquire k r) old (Ok (Waits h l)) mid → Laws old
    → IsOnCycle mid k.process ↔ LeadsTo old h.process k.process

-- the table is at rest, no verdict stands, and but for labels and counts it is as before
pub record IsRefused (old new : TableState) : Type 0 where
  pub laws : Laws new
  pub rest : AtRest new
  pub none : HasNoVictim new
  pub same : IsSameButLabels old new

-- so it is where a request closed a cycle, the table was settled, and the requester took back its wait
abbrev pub CloserIsRefused : Type 0
CloserIsRefused = (old mid settled : TableState) (k h : Key) (r : ℕ) (l : Label) (answer : Settled)
    → Step (Acquire k r) old (Ok (Waits h l)) mid → Step Settle mid (Ok answer) settled → Laws old → AtRest old → HasNoVictim old
    → IsTrue (has_verdict settled k.process) → IsRefused old (take_back settled k.process)
