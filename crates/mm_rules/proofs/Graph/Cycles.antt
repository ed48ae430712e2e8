-- Paths and cycles: each process has one holder, so two paths to one end have one length, and a cycle holds each process that its members reach.
use Rattle.std.specs.Prelude.{ℕ, suc, ◌≡◌, ◌≢◌, ◌≤◌, ◌⊎◌, List, [], ◌∷◌, length, ⊤}
use Rattle.std.proofs.Common.{inl, inr, arith, sym, ap, subst, ◌∙◌, refl}
use Rattle.mm_lists.specs.Members.{Among, NoRepeat}
use Rattle.mm_rules.specs.Graph.{Graph, WaitsFor, Walk, Path, Cycle}
use Rattle.mm_rules.proofs.Graph.Walks.{one_holder}

-- a walk that stops where it first reaches m
abbrev FirstTo : Graph → ℕ → List ℕ → ℕ → Type 0
FirstTo g n places m = Walk g (λ k. k ≢ m) n places m

one_length : (g : Graph) (n m : ℕ) (p q : List ℕ) → FirstTo g n p m → FirstTo g n q m → length p ≡ length q
one_length g n m [] [] first second = refl
one_length g n m [] (j ∷ q) first second = absurd (second.0 first)
one_length g n m (i ∷ p) [] first second = absurd (first.0 second)
one_length g n m (i ∷ p) (j ∷ q) first second =
    ap suc (one_length g i m p q first.2 (rw (one_holder g n i j first.1 second.1) second.2))

-- the rest of a walk, from one of its places on
record RestOf (g : Graph) (Each : ℕ → Type 0) (k m bound : ℕ) : Type 0 where
  places : List ℕ
  walk : Walk g Each k places m
  short : length places ≤ bound

rest_of : (g : Graph) (Each : ℕ → Type 0) (n : ℕ) (places : List ℕ) (m k : ℕ)
    → Walk g Each n places m → Among k (n ∷ places) → RestOf g Each k m (length places)
rest_of g Each n places m k walk (inl e) = record { places = places; walk = rw e walk; short = omega arith }
rest_of g Each n [] m k walk (inr found) = absurd found
rest_of g Each n (j ∷ places) m k walk (inr found) =
    let rest : RestOf g Each k m (length places) = rest_of g Each j places m k walk.2 found in
    record { places = rest.places; walk = rest.walk; short = omega (arith, rest.short) }

-- where a process stood twice, the rest from there on would be too short
pub no_repeat : (g : Graph) (n : ℕ) (places : List ℕ) (m : ℕ) → Walk g (λ k. k ≢ m) n places m → NoRepeat (n ∷ places)
no_repeat g n [] m end = (λ h. h, tt)
no_repeat g n (j ∷ places) m walk = (
  λ again.
      let rest : RestOf g (λ k. k ≢ m) n m (length places) = rest_of g (λ k. k ≢ m) j places m n walk.2 again in
      omega (arith, one_length g n m rest.places (j ∷ places) rest.walk walk, rest.short),
  no_repeat g j places m walk.2,
)

-- each process that a walk leaves is as the walk says
pub leaves : (g : Graph) (Each : ℕ → Type 0) (n : ℕ) (places : List ℕ) (m k : ℕ)
    → Walk g Each n places m → Among k (n ∷ places) → k ≢ m → Each k
leaves g Each n [] m k end (inl e) apart = absurd (apart (e ∙ end))
leaves g Each n [] m k end (inr found) apart = absurd found
leaves g Each n (j ∷ places) m k walk (inl e) apart = subst Each (sym e) walk.0
leaves g Each n (j ∷ places) m k walk (inr found) apart = leaves g Each j places m k walk.2 found apart

-- the holder of a process on a path stands on it too, but for that of the last one
next_among : (g : Graph) (n : ℕ) (places : List ℕ) (m k j : ℕ)
    → Path g n places m → Among k (n ∷ places) → WaitsFor g k j → (k ≡ m) ⊎ Among j places
next_among g n [] m k j end (inl e) waits = inl (e ∙ end)
next_among g n [] m k j end (inr found) waits = absurd found
next_among g n (i ∷ places) m k j path (inl e) waits = inr (inl (one_holder g n j i (rw e at waits) path.1))
next_among g n (i ∷ places) m k j path (inr found) waits = elim (next_among g i places m k j path.2 found waits) [
  | inl last ↦ inl last
  | inr next ↦ inr (inr next)
]

pub last_among : (g : Graph) (n : ℕ) (places : List ℕ) (m : ℕ) → Path g n places m → Among m (n ∷ places)
last_among g n [] m end = inl (sym end)
last_among g n (j ∷ places) m path = inr (last_among g j places m path.2)

-- a path from the start of a path to one of its places
way_to : (g : Graph) (n : ℕ) (places : List ℕ) (m k : ℕ) → Path g n places m → Among k places → (way : List ℕ) × Path g n way k
way_to g n [] m k path found = absurd found
way_to g n (j ∷ places) m k path (inl e) = (j ∷ [], (tt, path.1, sym e))
way_to g n (j ∷ places) m k path (inr found) =
    let way : (way : List ℕ) × Path g j way k = way_to g j places m k path.2 found in
    (j ∷ way.0, (tt, path.1, way.1))

pub start_on_cycle : (g : Graph) (v : ℕ) (places : List ℕ) → Cycle g v places → Among v places
start_on_cycle g v [] cycle = omega (arith, cycle.moves)
start_on_cycle g v (j ∷ places) cycle = last_among g j places v cycle.closed.2

pub cycle_holds_next : (g : Graph) (v : ℕ) (places : List ℕ) → Cycle g v places → (k j : ℕ) → Among k places → WaitsFor g k j → Among j places
cycle_holds_next g v [] cycle k j found waits = found
cycle_holds_next g v (i ∷ places) cycle k j found waits = elim (next_among g v (i ∷ places) v k j cycle.closed (inr found) waits) [
  | inl last ↦ inl (one_holder g v j i (rw last at waits) cycle.closed.1)
  | inr next ↦ next
]

pub cycle_holds_reached : (g : Graph) (v : ℕ) (places : List ℕ) → Cycle g v places
    → (k : ℕ) (way : List ℕ) (m : ℕ) → Among k places → Path g k way m → Among m places
cycle_holds_reached g v places cycle k [] m found end = (let P : ℕ → Type 0 = λ i. Among i places in subst P end found)
cycle_holds_reached g v places cycle k (j ∷ way) m found path =
    cycle_holds_reached g v places cycle j way m (cycle_holds_next g v places cycle k j found path.1) path.2

-- where one process stands on two cycles, each process of the first stands on the second
pub cycles_meet : (g : Graph) (v u : ℕ) (p q : List ℕ) → Cycle g v p → Cycle g u q
    → (k : ℕ) → Among k p → Among k q → (j : ℕ) → Among j p → Among j q
cycles_meet g v u p q first second k on_first on_second j found =
    let back : RestOf g (λ _. ⊤) k v (length p) = rest_of g (λ _. ⊤) v p v k first.closed (inr on_first) in
    let way : (way : List ℕ) × Path g v way j = way_to g v p v j first.closed found in
    cycle_holds_reached g u q second v way.0 j (cycle_holds_reached g u q second k back.places v on_second back.walk) way.1
