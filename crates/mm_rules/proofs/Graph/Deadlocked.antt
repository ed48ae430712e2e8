-- A process whose label returned is deadlocked: the walk that its label came along closes a cycle,
-- on which each other own label is older and all show one label.
use Rattle.std.specs.Prelude.{ℕ, ◌<◌, ◌≡◌, ◌≢◌, ◌≤◌, List, [], ◌∷◌, ⊤}
use Rattle.std.proofs.Common.{inl, inr, arith, sym, ap, ◌∙◌, refl}
use Rattle.std.proofs.Math.Decide.{ℕ_discrete}
use Rattle.mm_lists.specs.Members.{Among}
use Rattle.mm_rules.specs.Graph.{Graph, Walk, Cycle, Relays, Propagated, LabelReturned, Deadlocked, RisingLaw}
use Rattle.mm_rules.proofs.Graph.Laws.{IsLawful}
use Rattle.mm_rules.proofs.Graph.Walks.{walk_again, OnTheWay}
use Rattle.mm_rules.proofs.Graph.Cycles.{no_repeat, leaves, cycles_meet, start_on_cycle}

-- who relays another's label shows no greater one than its holder, and so on to the end
rises_to_end : (g : Graph) → RisingLaw g → (M n : ℕ) (places : List ℕ) (m k : ℕ) → Walk g (OnTheWay g M m) n places m
    → Among k (n ∷ places) → g.public k ≤ g.public m
rises_to_end g rising M n [] m k end (inl e) = omega (arith, ap g.public (e ∙ end))
rises_to_end g rising M n [] m k end (inr found) = absurd found
rises_to_end g rising M n (j ∷ places) m k ((apart, relays), waits, rest) (inl e) =
    omega (arith, ap g.public e, relays.older, relays.shown, rising n j waits, rises_to_end g rising M j places m j rest (inl refl))
rises_to_end g rising M n (j ∷ places) m k walk (inr found) = rises_to_end g rising M j places m k walk.2 found

module _ (g : Graph) (v h : ℕ) (laws : IsLawful g) (returned : LabelReturned g v h) where
  -- the walk that brought v's label back to its holder
  pub way_back : Propagated g (g.private v) h v
  way_back =
      let apart : h ≢ v = λ e. laws.apart v h returned.waits (sym e) in
      laws.propagated v h h returned.waits (laws.within v h returned.waits).1 apart (sym returned.back ∙ sym returned.own)

  way_back-again : (Every : ℕ → Type 0) → ((k : ℕ) → OnTheWay g (g.private v) v k → Every k) → Walk g Every h way_back.places v
  way_back-again Every each =
      walk_again g g (OnTheWay g (g.private v) v) Every (λ k j waits here. (each k here, waits)) h way_back.places v way_back.along

  relays_back : (k : ℕ) → Among k (h ∷ way_back.places) → k ≢ v → Relays g (g.private v) k
  relays_back k found apart = (leaves g (OnTheWay g (g.private v) v) h way_back.places v k way_back.along found apart).1

  one_label_back : (k : ℕ) → Among k (h ∷ way_back.places) → g.public k ≡ g.public v
  one_label_back k found = elim (ℕ_discrete k v) [
    | yes e ↦ ap g.public e
    | no apart ↦
        let rises : g.public k ≤ g.public v = rises_to_end g laws.rising (g.private v) h way_back.places v k way_back.along found in
        omega (arith, (relays_back k found apart).shown, returned.own)
  ]

  pub returned_are_deadlocked : Deadlocked g v
  returned_are_deadlocked = record {
    places = h ∷ way_back.places;
    cycle = record {
      closed = (tt, returned.waits, way_back-again (λ _. ⊤) (λ k here. tt));
      moves = omega arith;
      simple = no_repeat g h way_back.places v (way_back-again (λ k. k ≢ v) (λ k here. here.0));
    };
    greatest = λ k found apart. (relays_back k found apart).older;
    one_label = one_label_back;
  }

  -- on any cycle where v stands, its private label is the greatest
  pub returned_is_greatest : (s : ℕ) (places : List ℕ) → Cycle g s places → Among v places → (k : ℕ) → Among k places → k ≢ v → g.private k < g.private v
  returned_is_greatest s places cycle v_on k k_on apart =
      let locked : Deadlocked g v = returned_are_deadlocked in
      let start : Among v locked.places = start_on_cycle g v locked.places locked.cycle in
      locked.greatest k (cycles_meet g s v places locked.places cycle locked.cycle v v_on start k k_on) apart

-- of two on one cycle, each would have the smaller private label
pub one_returned_on_a_cycle : (g : Graph) (v h u i s : ℕ) (places : List ℕ) → IsLawful g → Cycle g s places
    → Among v places → LabelReturned g v h → Among u places → LabelReturned g u i → u ≡ v
one_returned_on_a_cycle g v h u i s places laws cycle v_on v_returned u_on u_returned = elim (ℕ_discrete u v) [
  | yes e ↦ e
  | no apart ↦
      let older : g.private u < g.private v = returned_is_greatest g v h laws v_returned s places cycle v_on u u_on apart in
      let newer : g.private v < g.private u = returned_is_greatest g u i laws u_returned s places cycle u_on v v_on (λ e. apart (sym e)) in
      absurd (omega arith)
]
