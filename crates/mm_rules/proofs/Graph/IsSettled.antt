-- Where no raise applies, each cycle shows one label, and the process that tops it there has it as its own: so its label returned.
use Rattle.std.specs.Prelude.{ℕ, ◌≡◌, ◌≢◌, ◌≤◌, ◌<◌, List, [], ◌∷◌, ⊤}
use Rattle.std.proofs.Common.{inl, inr, arith, sym, ap, ◌∙◌}
use Rattle.mm_lists.specs.Members.{Among}
use Rattle.mm_rules.specs.Graph.{Graph, WaitsFor, IsWaiting, Path, Cycle, Tops, Topped, LabelReturned, IsSettled}
use Rattle.mm_rules.proofs.Graph.Laws.{IsLawful}
use Rattle.mm_rules.proofs.Graph.Walks.{active_waits_not, begins_waiting}
use Rattle.mm_rules.proofs.Graph.Cycles.{cycle_holds_next, cycle_holds_reached, start_on_cycle}
use Rattle.mm_rules.proofs.Graph.Deadlocked.{returned_is_greatest, one_returned_on_a_cycle}

-- the one process of a cycle whose label returned, with the greatest private label there
pub record ReturnedOnCycle (g : Graph) (places : List ℕ) : Type 0 where
  pub process : ℕ
  pub holder : ℕ
  pub on_cycle : Among process places
  pub returned : LabelReturned g process holder
  pub only : (u i : ℕ) → Among u places → LabelReturned g u i → u ≡ process
  pub greatest : (k : ℕ) → Among k places → k ≢ process → g.private k < g.private process

-- where no raise applies, public labels fall along a path
pub falls_to : (g : Graph) → IsSettled g → (n : ℕ) (places : List ℕ) (m : ℕ) → Path g n places m → g.public m ≤ g.public n
falls_to g settled n [] m end = omega (arith, ap g.public end)
falls_to g settled n (j ∷ places) m path = omega (arith, settled n j path.1, falls_to g settled j places m path.2)

-- each place of a path shows at most what its start does, and at least what its end does
falls_between : (g : Graph) → IsSettled g → (n : ℕ) (places : List ℕ) (m k : ℕ)
    → Path g n places m → Among k places → (g.public k ≤ g.public n) × (g.public m ≤ g.public k)
falls_between g settled n [] m k path found = absurd found
falls_between g settled n (j ∷ places) m k path (inl e) = omega (arith, settled n j path.1, falls_to g settled j places m path.2, ap g.public e)
falls_between g settled n (j ∷ places) m k path (inr found) = omega (arith, settled n j path.1, falls_between g settled j places m k path.2 found)

pub start_waits : (g : Graph) (s : ℕ) (places : List ℕ) → Cycle g s places → IsWaiting g s
start_waits g s [] cycle = absurd (omega (arith, cycle.moves))
start_waits g s (j ∷ places) cycle = (j, cycle.closed.1)

-- each place of a path to a waiting process waits
pub all_wait : (g : Graph) (n : ℕ) (places : List ℕ) (m k : ℕ) → Path g n places m → IsWaiting g m → Among k places → IsWaiting g k
all_wait g n [] m k path last found = absurd found
all_wait g n (j ∷ places) m k path last (inl e) = rw e (begins_waiting g (λ _. ⊤) j places m path.2 last)
all_wait g n (j ∷ places) m k path last (inr found) = all_wait g j places m k path.2 last found

module _ (g : Graph) (s : ℕ) (places : List ℕ) (laws : IsLawful g) (settled : IsSettled g) (cycle : Cycle g s places) where
  one_label_shown : (k : ℕ) → Among k places → g.public k ≡ g.public s
  one_label_shown k found = omega (arith, falls_between g settled s places s k cycle.closed found)

  on_cycle_waits : (k : ℕ) → Among k places → IsWaiting g k
  on_cycle_waits k = all_wait g s places s k cycle.closed (start_waits g s places cycle)

  -- the process that tops the cycle's label
  top_returned : (v : ℕ) → Among v places → Tops g (g.public s) v → (h : ℕ) → WaitsFor g v h → LabelReturned g v h
  top_returned v on_cycle (inl active) h waits = absurd (active_waits_not g v active.0 (h, waits))
  top_returned v on_cycle (inr waiting) h waits =
      let shows : g.public v ≡ g.public s = one_label_shown v on_cycle in
      let next : g.public h ≡ g.public s = one_label_shown h (cycle_holds_next g s places cycle v h on_cycle waits) in
      record { waits = waits; own = omega (arith, laws.ordered v (laws.within v h waits).0); back = shows ∙ sym next }

  pub settled_finds_each_cycle : ReturnedOnCycle g places
  settled_finds_each_cycle =
      let waits : IsWaiting g s = start_waits g s places cycle in
      let topped : Topped g s = laws.topped s waits.0 waits.1 in
      let start : Among s places = start_on_cycle g s places cycle in
      let on_cycle : Among topped.top places = cycle_holds_reached g s places cycle s topped.places topped.top start topped.along in
      let top_waits : IsWaiting g topped.top = on_cycle_waits topped.top on_cycle in
      let returned : LabelReturned g topped.top top_waits.0 = top_returned topped.top on_cycle topped.tops top_waits.0 top_waits.1 in
      record {
        process = topped.top;
        holder = top_waits.0;
        on_cycle = on_cycle;
        returned = returned;
        only = λ u i. one_returned_on_a_cycle g topped.top top_waits.0 u i s places laws cycle on_cycle returned;
        greatest = returned_is_greatest g topped.top top_waits.0 laws returned s places cycle on_cycle;
      }

pub quiet_has_no_cycle : (g : Graph) → IsLawful g → IsSettled g
    → ((v h : ℕ) → LabelReturned g v h → ⊥) → (s : ℕ) (places : List ℕ) → Cycle g s places → ⊥
quiet_has_no_cycle g laws settled quiet s places cycle =
    let found : ReturnedOnCycle g places = settled_finds_each_cycle g s places laws settled cycle in
    quiet found.process found.holder found.returned
