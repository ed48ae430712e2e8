-- A walk along the waits finds the cycle that it began on, or shows that there is none.
use Rattle.std.proofs.Common.{◌≡◌, ◌≢◌, ◌⊎◌, ◌+◌, below_more, ℕ, ◌<◌, ◌≤◌, List, [], ◌∷◌, ◌++◌, length, Some, None, inl, inr, refl, sym, ◌∙◌, arith, subst}
use Rattle.mm_lists.specs.Members.{Among, NoRepeat}
use Rattle.mm_lists.proofs.Lemmas.NoRepeat.{length-NoRepeat}
use Rattle.mm_rules.specs.Graph.{Graph, WaitsFor, IsActive, Walk, Path, Cycle}
use Rattle.mm_rules.specs.TableState.{TableState, graph_of}
use Rattle.mm_rules.specs.Laws.{Laws}
use Rattle.mm_rules.specs.Victims.{IsOnCycle}
use Rattle.mm_rules.proofs.Graph.Cycles.{no_repeat}
use Rattle.mm_rules.proofs.Graph.Walks.{one_holder}
use Rattle.mm_rules.proofs.States.Lookups.{holder_within}

-- from n by these places to m, and v is none of the places
pub record Avoids (g : Graph) (v : ℕ) (places : List ℕ) (m : ℕ) : Type 0 where
  pub along : Path g v places m
  pub absent : Among v places → ⊥

step_path : (g : Graph) (n : ℕ) (places : List ℕ) (m h : ℕ) → Path g n places m → WaitsFor g m h → Path g n (places ++ h ∷ []) h
step_path g n [] m h path waits = (tt, subst (λ k. WaitsFor g k h) (sym path) waits, refl)
step_path g n (j ∷ places) m h path waits = (tt, path.1, step_path g j places m h path.2 waits)

absent_more : (v h : ℕ) (places : List ℕ) → (Among v places → ⊥) → h ≢ v → Among v (places ++ h ∷ []) → ⊥
absent_more v h [] absent apart (inl e) = apart (sym e)
absent_more v h [] absent apart (inr never) = never
absent_more v h (j ∷ places) absent apart (inl e) = absent (inl e)
absent_more v h (j ∷ places) absent apart (inr later) = absent_more v h places (λ among. absent (inr among)) apart later

pub avoids_more : (g : Graph) (v : ℕ) (places : List ℕ) (m h : ℕ) → Avoids g v places m → WaitsFor g m h → h ≢ v → Avoids g v (places ++ h ∷ []) h
avoids_more g v places m h walk waits apart = record {
  along = step_path g v places m h walk.along waits;
  absent = absent_more v h places walk.absent apart;
}

-- a path whose places before the last are not v stops at v first
first_to : (g : Graph) (v n : ℕ) (places : List ℕ) (m : ℕ) → n ≢ v → Path g n places m → (Among v places → ⊥) → WaitsFor g m v → Walk g (λ k. k ≢ v) n (places ++ v ∷ []) v
first_to g v n [] m apart path absent waits = (apart, subst (λ k. WaitsFor g k v) (sym path) waits, refl)
first_to g v n (j ∷ places) m apart path absent waits =
    (apart, path.1, first_to g v j places m (λ e. absent (inl (sym e))) path.2 (λ among. absent (inr among)) waits)

simple_by : (g : Graph) (v : ℕ) (places : List ℕ) (m : ℕ) → Path g v places m → (Among v places → ⊥) → WaitsFor g m v → NoRepeat (places ++ v ∷ [])
simple_by g v [] m path absent waits = (λ never. never, tt)
simple_by g v (j ∷ places) m path absent waits =
    no_repeat g j (places ++ v ∷ []) v (first_to g v j places m (λ e. absent (inl (sym e))) path.2 (λ among. absent (inr among)) waits)

not_empty : (places : List ℕ) (v : ℕ) → 0 < length (places ++ v ∷ [])
not_empty [] v = omega arith
not_empty (j ∷ places) v = omega arith

-- where the next step leads back, the walk is a cycle
pub closes : (g : Graph) (v : ℕ) (places : List ℕ) (m : ℕ) → Avoids g v places m → WaitsFor g m v → Cycle g v (places ++ v ∷ [])
closes g v places m walk waits = record {
  closed = step_path g v places m v walk.along waits;
  moves = not_empty places v;
  simple = simple_by g v places m walk.along walk.absent waits;
}

-- a walk that ends at a process that does not wait, or that is as long as another one to v, has passed v
passed : (g : Graph) (v n : ℕ) (places : List ℕ) (m : ℕ) → Path g n places m → (Among v places → ⊥) → (back : List ℕ) → Path g n back v → 0 < length back
    → IsActive g m ⊎ (length back ≤ length places) → ⊥
passed g v n places m path absent [] closed moves ends = omega arith
passed g v n [] m path absent (j ∷ back) closed moves (inl active) =
    let never : None ≡ Some j = sym (subst (λ k. IsActive g k) (sym path) active) ∙ closed.1 in absurd (cc)
passed g v n [] m path absent (j ∷ back) closed moves (inr long) = omega arith
passed g v n (i ∷ places) m path absent (j ∷ []) closed moves ends =
    absent (inl (sym (one_holder g n i j path.1 closed.1 ∙ closed.2)))
passed g v n (i ∷ places) m path absent (j ∷ k ∷ back) closed moves ends =
    passed g v i places m path.2 (λ among. absent (inr among)) (k ∷ back) (rw (one_holder g n i j path.1 closed.1) closed.2) (omega arith) (shorter ends)
  where
    shorter : IsActive g m ⊎ (length (j ∷ k ∷ back) ≤ length (i ∷ places)) → IsActive g m ⊎ (length (k ∷ back) ≤ length places)
    shorter (inl active) = inl active
    shorter (inr long) = inr (omega arith)

-- so v is on no cycle
pub ends_apart : (g : Graph) (v : ℕ) (places : List ℕ) (m : ℕ) → Avoids g v places m → IsActive g m → (cycle : List ℕ) → Cycle g v cycle → ⊥
ends_apart g v places m walk active cycle is = passed g v v places m walk.along walk.absent cycle is.closed is.moves (inl active)

module _ (s : TableState) (laws : Laws s) where
  path_within : (n : ℕ) (places : List ℕ) (m : ℕ) → Path (graph_of s) n places m → (k : ℕ) → Among k places → k < s.config.processes
  path_within n [] m path k among = absurd among
  path_within n (j ∷ places) m path k (inl e) = rw e (holder_within s laws.lawful.well_formed n j path.1).1
  path_within n (j ∷ places) m path k (inr later) = path_within j places m path.2 k later

  pub goes_round : (v : ℕ) (places : List ℕ) (m : ℕ) → Avoids (graph_of s) v places m → s.config.processes ≤ length places → IsOnCycle s v → ⊥
  goes_round v places m walk long on =
      let is : Cycle (graph_of s) v on.0 = on.1 in
      let short : length on.0 ≤ s.config.processes = length-NoRepeat on.0 s.config.processes is.simple (path_within v on.0 v is.closed) in
      passed (graph_of s) v v places m walk.along walk.absent on.0 is.closed is.moves (inr (omega arith))

  -- whoever is on a cycle is one of the table's processes
  pub on_cycle_within : (n : ℕ) → IsOnCycle s n → n < s.config.processes
  on_cycle_within n on = begins on.0 on.1
    where
      begins : (places : List ℕ) → Cycle (graph_of s) n places → n < s.config.processes
      begins [] is = (let none : 0 < 0 = is.moves in absurd (omega arith))
      begins (j ∷ places) is = (holder_within s laws.lawful.well_formed n j is.closed.1).0

pub none_more : (s : TableState) (i : ℕ) → ((n : ℕ) → n < i → ¬ IsOnCycle s n) → ¬ IsOnCycle s i → (n : ℕ) → n < i + 1 → ¬ IsOnCycle s n
none_more s i below here = below_more (λ n. ¬ IsOnCycle s n) i below here
