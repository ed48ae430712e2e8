-- The transaction that a settle convicts: the one that closed a cycle of waits, if the table was at rest before.
use Rattle.std.specs.Prelude.{ℕ, ◌≡◌, ◌≢◌, ◌<◌, ◌⊎◌, ◌↔◌, ⊤, List, Result, Ok, IsTrue, IsFalse}
use Rattle.mm_arena.specs.declared.key.Key.{Key}
use Rattle.mm_label.specs.Label.{Label, word_of}
use Rattle.mm_rules.specs.declared.refusal.Refusal.{Refusal}
use Rattle.mm_rules.specs.declared.reply.Acquired.TheVariants.{Waits}
use Rattle.mm_rules.specs.declared.reply.Settled.{Settled}
use Rattle.mm_rules.specs.TableState.{TableState, has_verdict, graph_of}
use Rattle.mm_rules.specs.Event.{Event, Acquire, Settle, Answer, Step}
use Rattle.mm_rules.specs.Graph.{Path, Cycle}
use Rattle.mm_rules.specs.Laws.{Laws, HasOneVerdict, AtRest}

-- n is on a cycle of waits
abbrev pub IsOnCycle : TableState → ℕ → Type 0
IsOnCycle s n = (cycle : List ℕ) × Cycle (graph_of s) n cycle

-- one verdict stands on each cycle of waits
abbrev pub EachCycleHasVerdict : TableState → Type 0
EachCycleHasVerdict s = (k : ℕ) (cycle : List ℕ) → Cycle (graph_of s) k cycle → HasOneVerdict s cycle

-- the transaction was told to wait
abbrev pub BeginsWait : (e : Event) → Result (Answer e) Refusal → Type 0
BeginsWait (Acquire k r) (Ok (Waits h l)) = ⊤
BeginsWait e reply = ⊥

-- ---- who closes a cycle is its victim

-- from old to new nobody gets or loses a verdict but n, which had none; it has one in new exactly if it is on a cycle of mid, and the answer counts it
pub record OnlyCloserIsConvicted (old mid new : TableState) (n : ℕ) (answer : Settled) : Type 0 where
  pub before : IsFalse (has_verdict old n)
  pub others : (v : ℕ) → v ≢ n → has_verdict new v ≡ has_verdict old v
  pub closer : IsTrue (has_verdict new n) ↔ IsOnCycle mid n
  pub verdicts : (IsOnCycle mid n × (answer.verdicts ≡ 1)) ⊎ ((IsOnCycle mid n → ⊥) × (answer.verdicts ≡ 0))

-- the label is greater than each private one along the waits from h, h's own included
abbrev pub IsNewest : TableState → ℕ → Label → Type 0
IsNewest s h l = (way : List ℕ) (m : ℕ) → Path (graph_of s) h way m → (graph_of s).private m < word_of l

-- so it is if one verdict stands on each cycle, k begins to wait under a label that is greater than each private one along its waits, and the table is then settled
abbrev pub NewestCloserIsVictim : Type 0
NewestCloserIsVictim = (old mid new : TableState) (k h : Key) (r : ℕ) (l : Label) (answer : Settled)
    → Step (Acquire k r) old (Ok (Waits h l)) mid → Step Settle mid (Ok answer) new → Laws old → EachCycleHasVerdict old → IsNewest old h.process l
    → OnlyCloserIsConvicted old mid new k.process answer

-- and no closer whose label is not so is convicted
abbrev pub VictimIsNewest : Type 0
VictimIsNewest = (old mid new : TableState) (k h : Key) (r : ℕ) (l : Label) (answer : Settled)
    → Step (Acquire k r) old (Ok (Waits h l)) mid → Step Settle mid (Ok answer) new → Laws old → IsTrue (has_verdict new k.process) → IsNewest old h.process l

-- at rest the label is always so
abbrev pub CloserIsVictim : Type 0
CloserIsVictim = (old mid new : TableState) (k h : Key) (r : ℕ) (l : Label) (answer : Settled)
    → Step (Acquire k r) old (Ok (Waits h l)) mid → Step Settle mid (Ok answer) new → Laws old → AtRest old → OnlyCloserIsConvicted old mid new k.process answer

-- ---- no other event closes one

-- if one verdict stands on each cycle, it is so after each event by which nobody begins to wait
abbrev pub OnlyWaitsCloseCycles : Type 0
OnlyWaitsCloseCycles = (e : Event) (old new : TableState) (reply : Result (Answer e) Refusal) → Step e old reply new → (BeginsWait e reply → ⊥)
    → Laws old → EachCycleHasVerdict old → EachCycleHasVerdict new

-- and a settle after such an event gives no verdict
abbrev pub OthersHaveNoVictim : Type 0
OthersHaveNoVictim = (e : Event) (old mid new : TableState) (reply : Result (Answer e) Refusal) (answer : Settled)
    → Step e old reply mid → (BeginsWait e reply → ⊥) → Step Settle mid (Ok answer) new → Laws old → EachCycleHasVerdict old
    → (answer.verdicts ≡ 0) × ((v : ℕ) → has_verdict new v ≡ has_verdict mid v)
