-- Settle keeps the laws, and leaves a table at rest, where each process shows the greatest label that stood along its waits.
use Rattle.std.proofs.Common.{◌≡◌, ◌+◌, ℕ, List, fold, Bool, true, false, Ok, Err, MatchBool, count_by, refl, sym, ap, subst, arith}
use Rattle.mm_label.specs.Label.{word_of}
use Rattle.mm_rules.specs.declared.reply.Settled.{Settled}
use Rattle.mm_lists.specs.Members.{Among}
use Rattle.mm_rules.specs.Graph.{Graph, Cycle, LabelReturned, IsGreatest, IsSettled}
use Rattle.mm_rules.specs.TableState.{TableState, waiting_processes, public_of, graph_of}
use Rattle.mm_rules.specs.Change.{can_detect, detect, swept, total_raises}
use Rattle.mm_rules.specs.Event.{counts_exhausted, settle_tests, settled, Settles, Settle, Step, Gives}
use Rattle.mm_rules.specs.Laws.{Laws, NoneToDetect, HasOneVerdict, AtRest, RestsFrom}
use Rattle.mm_rules.proofs.Graph.Settle.{IsSettledFrom}
use Rattle.mm_rules.proofs.Graph.IsSettled.{ReturnedOnCycle, settled_finds_each_cycle}
use Rattle.mm_rules.proofs.States.Laws.{graph_lawful}
use Rattle.mm_rules.proofs.States.Outcome.{KeepsLaws, keeps_then, outcome_keeps_laws, counting, counting_keeps_laws}
use Rattle.mm_rules.proofs.States.Sweep.{waiting_among, swept_keeps, settled_from}
use Rattle.mm_rules.proofs.States.DetectAll.{detects_graph, detects_keep, detects_find}

-- the state after so many sweeps, and the detects of all that wait
abbrev rested : TableState → ℕ → TableState
rested s n = fold detect (swept s n) (waiting_processes (swept s n))

rested_keeps : (s : TableState) (n : ℕ) → Laws s → KeepsLaws s (rested s n)
rested_keeps s n laws =
    let sweeps : KeepsLaws s (swept s n) = swept_keeps s n laws in
    keeps_then s (swept s n) (rested s n) sweeps (detects_keep (swept s n) (waiting_processes (swept s n)) sweeps.laws)

pub settled_keeps : (s : TableState) (n : ℕ) → Laws s → KeepsLaws s (settled s n).state
settled_keeps s n laws = outcome_keeps_laws s
    (record { raises = total_raises s n; verdicts = count_by (can_detect (swept s n)) (waiting_processes (swept s n)) }) (rested s n) (settle_tests s) laws
    (λ passed. rested_keeps s n laws)

-- ---- at rest

pub rest_finds_cycles : (s : TableState) → Laws s → IsSettled (graph_of s) → NoneToDetect s → (k : ℕ) (cycle : List ℕ) → Cycle (graph_of s) k cycle → HasOneVerdict s cycle
rest_finds_cycles s laws settled detected k cycle is =
    let found : ReturnedOnCycle (graph_of s) cycle = settled_finds_each_cycle (graph_of s) k cycle (graph_lawful s laws) settled is in
    record {
      victim = found.process;
      on_cycle = found.on_cycle;
      verdict = detected found.process found.holder found.returned;
      only = λ j on verdict. found.only j (laws.convicted j verdict).0 on (laws.convicted j verdict).1;
      greatest = found.greatest;
    }

at_rest_by : (s : TableState) → Laws s → IsSettled (graph_of s) → NoneToDetect s → AtRest s
at_rest_by s laws settled detected = record { transmitted = settled; detected = detected; cycles = rest_finds_cycles s laws settled detected }

module _ (s : TableState) (n : ℕ) (laws : Laws s) (settles : Settles s n) where
  from : IsSettledFrom (graph_of s) (waiting_processes s) (total_raises s n) (graph_of (swept s n))
  from = settled_from s n laws settles

  graph_same : graph_of (rested s n) ≡ graph_of (swept s n)
  graph_same = detects_graph (swept s n) (waiting_processes (swept s n))

  rested_settled : IsSettled (graph_of (rested s n))
  rested_settled = subst (λ (g : Graph). IsSettled g) (sym graph_same) from.settled

  rested_detected : NoneToDetect (rested s n)
  rested_detected v h returned =
      let sweeps : Laws (swept s n) = (swept_keeps s n laws).laws in
      let before : LabelReturned (graph_of (swept s n)) v h = subst (λ (g : Graph). LabelReturned g v h) graph_same returned in
      let among : Among v (waiting_processes (swept s n)) = waiting_among (swept s n) sweeps.lawful.well_formed v h before.waits in
      detects_find (swept s n) (waiting_processes (swept s n)) sweeps v h among before

  rested_greatest : (k : ℕ) → IsGreatest (graph_of s) k (word_of (public_of (rested s n) k))
  rested_greatest k =
      let shows : word_of (public_of (rested s n) k) ≡ word_of (public_of (swept s n) k) = ap (λ (g : Graph). g.public k) graph_same in
      rw shows (from.greatest k)

  rests : (m : ℕ) (answer : Settled) → answer.raises ≡ total_raises s n → RestsFrom s (counting (rested s n) m) answer
  rests m answer raised = record {
    at_rest = at_rest_by (counting (rested s n) m) (counting_keeps_laws (rested s n) m (rested_keeps s n laws).laws) rested_settled rested_detected;
    greatest = rested_greatest;
    raise_bound = omega (arith, from.raise_bound);
  }

-- the two cases of a step of settle
settle_step : (old new : TableState) (answer : Settled) (b : Bool) → counts_exhausted old ≡ b
    → MatchBool b (Gives (settled old 0) (Ok answer) new) ((n : ℕ) × Settles old n × Gives (settled old n) (Ok answer) new) → Laws old → RestsFrom old new answer
settle_step old new answer true full step laws = (let never : Ok answer ≡ Err _ = rw full at step.0 in absurd (cc))
settle_step old new answer false free (n, settles, step) laws =
    let said : Settled = record { raises = total_raises old n; verdicts = count_by (can_detect (swept old n)) (waiting_processes (swept old n)) } in
    let reply : Ok answer ≡ Ok said = rw free at step.0 in
    let is : answer ≡ said = cc in
    let state : new ≡ counting (rested old n) ((rested old n).totals.accepted + 1) = rw free at step.1 in
    rw state (rests old n laws settles ((rested old n).totals.accepted + 1) answer (ap (λ (a : Settled). a.raises) is))

pub settle_gives_rest : (old new : TableState) (answer : Settled) → Step Settle old (Ok answer) new → Laws old → RestsFrom old new answer
settle_gives_rest old new answer step laws = settle_step old new answer (counts_exhausted old) refl step laws
