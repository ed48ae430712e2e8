-- A sweep of the table is a sweep of its graph, and settling ends after so many sweeps as the graph's does.
use Rattle.std.proofs.Common.{◌≡◌, ◌+◌, ℕ, zero, suc, ◌<◌, List, [], ◌∷◌, filter, fold, Bool, true, false, Option, Some, None, is_some, if◌then◌else◌, inl, inr, refl, ap, subst, ◌∙◌, arith, zero-add}
use Rattle.std.specs.Option.{option_map_or}
use Rattle.std.specs.List.{range_with_len}
use Rattle.std.proofs.lemmas.Bool.{cases_Bool}
use Rattle.mm_label.specs.Label.{Label}
use Rattle.mm_lists.specs.Members.{Among}
use Rattle.mm_lists.proofs.Lemmas.Range.{among_range}
use Rattle.mm_lists.proofs.Lemmas.Filter.{filter_keeps}
use Rattle.mm_rules.specs.Graph.{Graph, WaitsFor}
use Rattle.mm_rules.specs.TableState.{TableState, waited_for, is_waiting, waiting_processes, graph_of}
use Rattle.mm_rules.specs.Change.{greater_label, can_transmit, transmit, raises_along, sweep_raises, swept, total_raises}
use Rattle.mm_rules.specs.Event.{Settles}
use Rattle.mm_rules.specs.Laws.{WellFormed, Laws}
use Rattle.mm_rules.proofs.Graph.Change.{Raises}
use Rattle.mm_rules.proofs.Graph.Settle.{Sweep, IsSettledFrom, settling_settles, IsStill}
use Rattle.mm_rules.proofs.Graph.Settle as graph
use Rattle.mm_rules.proofs.Graph.SettleEnds.{AreSweeps, total, sweeps_settle, SettlingEnds, settling_ends}
use Rattle.mm_rules.proofs.States.Lookups.{holder_within, waiting_is_some, none_of_is_some}
use Rattle.mm_rules.proofs.States.Laws.{graph_lawful}
use Rattle.mm_rules.proofs.States.Outcome.{KeepsLaws, keeps_same, keeps_then}
use Rattle.mm_rules.proofs.States.Transmit.{shown, HolderIsAbove, transmit_cases, transmit_still, transmit_shown, shown_raises, transmit_keeps}

-- the same waits and the same configuration
pub record SameWaits (s t : TableState) : Type 0 where
  pub waits : t.waits ≡ s.waits
  pub config : t.config ≡ s.config

same_waits_then : (a b c : TableState) → SameWaits a b → SameWaits b c → SameWaits a c
same_waits_then a b c first second = record { waits = second.waits ∙ first.waits; config = second.config ∙ first.config }

pub same_waiting : (s t : TableState) → SameWaits s t → waiting_processes t ≡ waiting_processes s
same_waiting s t same = λ i. filter (λ n. is_some (waited_for (same.waits i) n)) (range_with_len 0 (same.config i).processes)

shown_same_waits : (s : TableState) (n : ℕ) (o : Option Label) → SameWaits s (option_map_or (shown s n) o s)
shown_same_waits s n None = record { waits = refl; config = refl }
shown_same_waits s n (Some l) = record { waits = refl; config = refl }

transmits_same_waits : (s : TableState) (ks : List ℕ) → SameWaits s (fold transmit s ks)
transmits_same_waits s [] = record { waits = refl; config = refl }
transmits_same_waits s (k ∷ ks) =
    same_waits_then s (transmit s k) (fold transmit (transmit s k) ks) (shown_same_waits s k (greater_label s k)) (transmits_same_waits (transmit s k) ks)

pub swept_same_waits : (s : TableState) (n : ℕ) → SameWaits s (swept s n)
swept_same_waits s zero = record { waits = refl; config = refl }
swept_same_waits s (suc n) = same_waits_then s (swept s n) (swept s (suc n)) (swept_same_waits s n) (transmits_same_waits (swept s n) (waiting_processes (swept s n)))

-- whoever waits is one of the waiting processes
pub waiting_among : (s : TableState) → WellFormed s → (k h : ℕ) → WaitsFor (graph_of s) k h → Among k (waiting_processes s)
waiting_among s formed k h waits =
    let inside : k < s.config.processes = (holder_within s formed k h waits).0 in
    filter_keeps (is_waiting s) (range_with_len 0 s.config.processes) k (among_range 0 s.config.processes k (omega arith) (omega arith)) (waiting_is_some s k h waits)

-- ---- one sweep

transmits_keep : (s : TableState) (ks : List ℕ) → Laws s → KeepsLaws s (fold transmit s ks)
transmits_keep s [] laws = keeps_same s laws
transmits_keep s (k ∷ ks) laws =
    let now : KeepsLaws s (transmit s k) = transmit_keeps s laws k in
    keeps_then s (transmit s k) (fold transmit (transmit s k) ks) now (transmits_keep (transmit s k) ks now.laws)

pub swept_keeps : (s : TableState) (n : ℕ) → Laws s → KeepsLaws s (swept s n)
swept_keeps s zero laws = keeps_same s laws
swept_keeps s (suc n) laws =
    let before : KeepsLaws s (swept s n) = swept_keeps s n laws in
    keeps_then s (swept s n) (swept s (suc n)) before (transmits_keep (swept s n) (waiting_processes (swept s n)) before.laws)

module _ (s : TableState) (k : ℕ) (ks : List ℕ) (next : TableState) (can : Bool) where
  still_first : next ≡ s → can ≡ false → IsStill (graph_of s) k → Sweep (graph_of s) ks (raises_along s ks) (graph_of (fold transmit s ks))
      → Sweep (graph_of s) (k ∷ ks) ((if can then 1 else 0) + raises_along next ks) (graph_of (fold transmit next ks))
  still_first same none still rest = rw (same, none, zero-add) (inl (still, rest))

  raised_first : (h : ℕ) → can ≡ true → Raises (graph_of s) k h (graph_of next) → Sweep (graph_of next) ks (raises_along next ks) (graph_of (fold transmit next ks))
      → Sweep (graph_of s) (k ∷ ks) ((if can then 1 else 0) + raises_along next ks) (graph_of (fold transmit next ks))
  raised_first h some raises rest = rw some (inr (h, graph_of next, raises_along next ks, omega arith, raises, rest))

pub transmit_raises : (s : TableState) (k h : ℕ) → Laws s → HolderIsAbove s k h → Raises (graph_of s) k h (graph_of (transmit s k))
transmit_raises s k h laws above = rw (transmit_shown s laws k h above) (shown_raises s laws k h above)

pub transmits_sweep : (s : TableState) (ks : List ℕ) → Laws s → Sweep (graph_of s) ks (raises_along s ks) (graph_of (fold transmit s ks))
transmits_sweep s [] laws = (refl, refl)
transmits_sweep s (k ∷ ks) laws = elim (transmit_cases s laws k) [
  | inl still ↦ still_first s k ks (transmit s k) (can_transmit s k) (transmit_still s laws k still.0) (ap is_some still.0) still.1 (transmits_sweep s ks laws)
  | inr raised ↦ raised_first s k ks (transmit s k) (can_transmit s k) raised.0 (ap is_some raised.1.greater) (transmit_raises s k raised.0 laws raised.1)
      (transmits_sweep (transmit s k) ks (transmit_keeps s laws k).laws)
]

-- where nothing was raised, nothing changed
pub raised_nothing : (s : TableState) (ks : List ℕ) → raises_along s ks ≡ 0 → fold transmit s ks ≡ s
raised_nothing s [] none = refl
raised_nothing s (k ∷ ks) none = elim (cases_Bool (can_transmit s k)) [
  | inl can ↦ absurd (let some : 1 + raises_along (transmit s k) ks ≡ 0 = rw can at none in omega arith)
  | inr still ↦
      let same : transmit s k ≡ s = ap (λ o. option_map_or (shown s k) o s) (none_of_is_some (greater_label s k) still) in
      let rest : 0 + raises_along (transmit s k) ks ≡ 0 = rw still at none in
      raised_nothing (transmit s k) ks (omega arith) ∙ same
]

-- ---- all sweeps

abbrev graphs : TableState → ℕ → Graph
graphs s i = graph_of (swept s i)

abbrev raised : TableState → ℕ → ℕ
raised s i = sweep_raises (swept s i)

are_sweeps : (s : TableState) → Laws s → AreSweeps (graphs s) (raised s) (waiting_processes s)
are_sweeps s laws i lawful =
    subst (λ (ks : List ℕ). Sweep (graphs s i) ks (raised s i) (graphs s (suc i))) (same_waiting s (swept s i) (swept_same_waits s i))
    (transmits_sweep (swept s i) (waiting_processes (swept s i)) (swept_keeps s i laws).laws)

total_last : (rs : ℕ → ℕ) (n : ℕ) → total rs (suc n) ≡ total rs n + rs n
total_last rs zero = omega arith
total_last rs (suc n) = let later : total (λ i. rs (suc i)) (suc n) ≡ total (λ i. rs (suc i)) n + rs (suc n) = total_last (λ i. rs (suc i)) n in omega arith

same_total : (s : TableState) (n : ℕ) → total (raised s) n ≡ total_raises s n
same_total s zero = refl
same_total s (suc n) = omega (arith, total_last (raised s) n, same_total s n)

-- a settle always has its number of sweeps
pub settles_after : (s : TableState) → Laws s → (n : ℕ) × Settles s n
settles_after s laws =
    let ends : SettlingEnds (graphs s) (raised s) (waiting_processes s)
    = settling_ends (graphs s) (raised s) (waiting_processes s) (graph_lawful s laws) (waiting_among s laws.lawful.well_formed) (are_sweeps s laws) in
    (ends.sweeps, record { still = ends.none; first = ends.before })

-- what the sweeps of a settle give
pub settled_from : (s : TableState) (n : ℕ) → Laws s → Settles s n → IsSettledFrom (graph_of s) (waiting_processes s) (total_raises s n) (graph_of (swept s n))
settled_from s n laws settles =
    let sweeps : graph.Settles (graph_of s) (waiting_processes s) n (total (raised s) n) (graphs s (suc n))
    = sweeps_settle (graphs s) (raised s) (waiting_processes s) n (graph_lawful s laws) (are_sweeps s laws) settles.still settles.first in
    let last : swept s (suc n) ≡ swept s n = raised_nothing (swept s n) (waiting_processes (swept s n)) settles.still in
    let from : IsSettledFrom (graph_of s) (waiting_processes s) (total (raised s) n) (graphs s (suc n))
    = settling_settles (graph_of s) (graphs s (suc n)) (waiting_processes s) n (total (raised s) n) (graph_lawful s laws) (waiting_among s laws.lawful.well_formed) sweeps in
    subst (λ (m : ℕ). IsSettledFrom (graph_of s) (waiting_processes s) m (graph_of (swept s n))) (same_total s n)
    (subst (λ (t : TableState). IsSettledFrom (graph_of s) (waiting_processes s) (total (raised s) n) (graph_of t)) last from)
