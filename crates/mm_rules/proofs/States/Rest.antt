-- After which events a table is at rest without a settle.
use Rattle.std.proofs.Common.{◌≡◌, ℕ, ◌<◌, ◌≤◌, IsTrue, inl, inr, sym, ap, subst, arith}
use Rattle.std.proofs.Math.Decide.{ℕ_discrete}
use Rattle.mm_label.specs.Label.{word_of}
use Rattle.mm_rules.specs.declared.config.Config.{Config}
use Rattle.mm_rules.specs.Graph.{WaitsFor, IsWaiting, LabelReturned, Deadlocked}
use Rattle.mm_rules.specs.TableState.{TableState, opening, public_of, has_verdict, graph_of}
use Rattle.mm_rules.specs.Laws.{Laws, AtRest, HasOneVerdict}
use Rattle.mm_rules.specs.Victims.{EachCycleHasVerdict}
use Rattle.mm_rules.specs.Rest.{HoldersShowTheSame, OpeningIsAtRest, RestStays}
use Rattle.mm_rules.proofs.Graph.Cycles.{start_on_cycle}
use Rattle.mm_rules.proofs.Graph.IsSettled.{start_waits}
use Rattle.mm_rules.proofs.Graph.Deadlocked.{returned_are_deadlocked}
use Rattle.mm_rules.proofs.States.LabelOrder.{le_words}
use Rattle.mm_rules.proofs.States.Lookups.{holder_within}
use Rattle.mm_rules.proofs.States.Laws.{graph_lawful, public_within}
use Rattle.mm_rules.proofs.States.Outcome.{KeepsLaws}
use Rattle.mm_rules.proofs.States.EventsKeepLaws.{event_keeps}
use Rattle.mm_rules.proofs.States.ClosesNone.{ClosesNone}
use Rattle.mm_rules.proofs.States.EventsCloseNone.{event_closes_none}
use Rattle.mm_rules.proofs.States.NoVictim.{closing_none_keeps}

nobody_waits : (c : Config) (k h : ℕ) → WaitsFor (graph_of (opening c)) k h → ⊥
nobody_waits c k h waits = cc

pub opening_at_rest : OpeningIsAtRest
opening_at_rest c range = record {
  transmitted = λ k h waits. absurd (nobody_waits c k h waits);
  detected = λ v h returned. absurd (nobody_waits c v h returned.waits);
  cycles = λ k cycle is. absurd (let waits : IsWaiting (graph_of (opening c)) k = start_waits (graph_of (opening c)) k cycle is in nobody_waits c k waits.0 waits.1);
}

-- whose label has returned has a verdict, where each cycle has one
none_to_detect : (s : TableState) → Laws s → EachCycleHasVerdict s → (v h : ℕ) → LabelReturned (graph_of s) v h → IsTrue (has_verdict s v)
none_to_detect s laws each v h returned =
    let g = graph_of s in
    let locked : Deadlocked g v = returned_are_deadlocked g v h (graph_lawful s laws) returned in
    let one : HasOneVerdict s locked.places = each v locked.places locked.cycle in
    elim (ℕ_discrete one.victim v) [
      | yes e ↦ subst (λ (i : ℕ). IsTrue (has_verdict s i)) e one.verdict
      | no apart ↦ absurd (omega (arith, locked.greatest one.victim one.on_cycle apart, one.greatest v (start_on_cycle g v locked.places locked.cycle) (λ e. apart (sym e))))
    ]

pub closing_none_stays : (old new : TableState) → Laws old → KeepsLaws old new → ClosesNone old new → AtRest old → HoldersShowTheSame old new → AtRest new
closing_none_stays old new laws after closes rest same =
    let each : EachCycleHasVerdict new = closing_none_keeps old new after.laws rest.cycles closes in
    record {
      transmitted = λ n h waits.
          let low : (graph_of new).public h ≡ (graph_of old).public h = ap word_of (same n h waits) in
          elim (closes.waits n h waits (same n h waits)) [
            | inl was ↦
                let within : n < old.config.processes = (holder_within old laws.lawful.well_formed n h was).0 in
                let rose : (graph_of old).public n ≤ (graph_of new).public n = le_words (public_of old n) (public_of new n) (after.rise n) (public_within old laws n within) in
                omega (arith, low, rose, rest.transmitted n h was)
            | inr shown ↦
                let within : h < new.config.processes = (holder_within new after.laws.lawful.well_formed n h waits).1 in
                le_words (public_of new h) (public_of new n) shown (public_within new after.laws h within)
          ];
      detected = none_to_detect new after.laws each;
      cycles = each;
    }

pub rest_stays : RestStays
rest_stays e old new reply step laws rest same =
    closing_none_stays old new laws (event_keeps e old new reply step laws) (event_closes_none e old new reply step laws (inr same)) rest same
