-- Adopt keeps all laws, the wait-for graph, and rest: nobody waits for the resource.
use Rattle.std.proofs.Common.{◌≡◌, ◌≢◌, ℕ, Option, Some, None, IsTrue, sym, ap, subst, ◌∙◌}
use Rattle.mm_arena.specs.declared.key.Key.{Key}
use Rattle.mm_lists.specs.Members.{Among}
use Rattle.mm_rules.specs.Graph.{Graph, Cycle, IsSettled, LabelReturned}
use Rattle.mm_rules.specs.TableState.{TableState, Wait, is_live, owner_of, wait_of, graph_of}
use Rattle.mm_rules.specs.Laws.{Laws, AtRest, HasOneVerdict}
use Rattle.mm_rules.specs.Adopt.{with_owner, Adopts, AdoptKeepsLaws, AdoptKeepsGraph, AdoptStaysAtRest}
use Rattle.mm_rules.proofs.States.Lookups.{WaitsHere, waits_here, held}
use Rattle.mm_rules.proofs.States.Grant.{unwaited_graph, unwaited_keeps}

module _ (s : TableState) (r : ℕ) (k : Key) (laws : Laws s) (free : owner_of s r ≡ None) where
  -- no wait is for r
  unwaited : (w : Wait) → Among w s.waits → w.resource ≢ r
  unwaited w among e =
      let other : (h : Key) × (owner_of s w.resource ≡ Some h) × (h.process ≢ w.key.process) = held s laws.lawful.well_formed w among in
      let never : None ≡ Some other.0 = sym free ∙ ap (owner_of s) (sym e) ∙ other.1 in
      absurd (cc)

  nobody : (n : ℕ) → wait_of s n ≢ Some r
  nobody n waits = (let here : WaitsHere s n r = waits_here s n r waits in unwaited here.wait here.among here.resource)

  graph_stays : graph_of (with_owner s r k) ≡ graph_of s
  graph_stays = unwaited_graph s r (Some k) nobody

  laws_stay : IsTrue (is_live s k) → Laws (with_owner s r k)
  laws_stay live = (unwaited_keeps s r (Some k) nobody unwaited owner_live laws).laws where
    owner_live : (h : Key) → Some k ≡ Some h → IsTrue (is_live s h)
    owner_live h e = (let same : k ≡ h = cc in rw (← same) live)

  rest_stays : AtRest s → AtRest (with_owner s r k)
  rest_stays rest = record {
    transmitted = subst IsSettled (sym graph_stays) rest.transmitted;
    detected = λ v h returned. rest.detected v h (subst (λ (g : Graph). LabelReturned g v h) graph_stays returned);
    cycles = λ v cycle is.
        let one : HasOneVerdict s cycle = rest.cycles v cycle (subst (λ (g : Graph). Cycle g v cycle) graph_stays is) in
        record { victim = one.victim; on_cycle = one.on_cycle; verdict = one.verdict; only = one.only; greatest = one.greatest };
  }

pub adopt_keeps_laws : AdoptKeepsLaws
adopt_keeps_laws k r old new adopts laws = rw adopts.state (laws_stay old r k laws adopts.free adopts.live)

pub adopt_keeps_graph : AdoptKeepsGraph
adopt_keeps_graph k r old new adopts laws = ap graph_of adopts.state ∙ graph_stays old r k laws adopts.free

pub adopt_stays_at_rest : AdoptStaysAtRest
adopt_stays_at_rest k r old new adopts laws rest = rw adopts.state (rest_stays old r k laws adopts.free rest)
