-- How many live transactions, waits and owned numbers an event leaves: each end makes them fewer.
use Rattle.std.proofs.Common.{◌≡◌, ◌≤◌, ◌<◌, ◌+◌, ℕ, zero, suc, Bool, true, false, cond, List, [], ◌∷◌, length, map, fold, count_by, Some, None, is_some, inl, inr, refl, sym, ap, subst, ◌∙◌, arith, slice_set, slice_index, slice_index_or, nat_eq, nat_lt}
use Rattle.std.proofs.Math.ListN.{length-map}
use Rattle.std.proofs.lemmas.Bool.{cases_Bool, cases_lt}
use Rattle.std.proofs.lemmas.List.Sums.{sum_by-set, count_by-le-length}
use Rattle.mm_arena.specs.declared.key.Key.{Key}
use Rattle.mm_lists.specs.Members.{Among}
use Rattle.mm_lists.proofs.Lemmas.Among.{among_map_gives}
use Rattle.mm_lists.proofs.Lemmas.Filter.{filter_gives}
use Rattle.mm_lists.proofs.Lemmas.NoRepeat.{length-NoRepeat}
use Rattle.mm_lists.proofs.Lemmas.Set.{true_within}
use Rattle.mm_rules.specs.TableState.{TableState, Wait, owner_of, wait_of, waiters_of}
use Rattle.mm_rules.specs.Change.{block, activate, give_to, hand_over, free_slot}
use Rattle.mm_rules.specs.Laws.{Laws}
use Rattle.mm_rules.proofs.States.Block.{process_of, blocked_all}
use Rattle.mm_rules.proofs.States.Lookups.{waits_here, waiter_within}
use Rattle.mm_manager.specs.private.Room.{held, to_end}
use Rattle.mm_manager.proofs.Lemmas.Labels.{activate_fewer, activate_no_more, blocked_waits}

-- ---- counts of a list

abbrev one : Bool → ℕ
one b = cond b 1 0

module _ {X : Type 0} (p : X → Bool) where
  one_at_most : (x : X) → cond (p x) 1 0 ≤ 1
  one_at_most x = elim (cases_Bool (p x)) [ inl passes ↦ rw passes (omega arith) | inr fails ↦ rw fails (omega arith) ]

  count_set_within : (xs : List X) (i : ℕ) (y d : X) → i < length xs → count_by p (slice_set xs i y) + cond (p (slice_index_or xs i d)) 1 0 ≡ count_by p xs + cond (p y) 1 0
  count_set_within xs i y d within = sum_by-set (λ x. cond (p x) 1 0) xs i y d within

  set_past : (xs : List X) (i : ℕ) (y : X) → length xs ≤ i → slice_set xs i y ≡ xs
  set_past [] zero y past = refl
  set_past [] (suc i) y past = refl
  set_past (x ∷ xs) zero y past = absurd (omega (arith, past))
  set_past (x ∷ xs) (suc i) y past = ap (λ ys. x ∷ ys) (set_past xs i y (omega (arith, past)))

  -- one more passes at the most
  count_set_more : (xs : List X) (i : ℕ) (y : X) → count_by p (slice_set xs i y) ≤ count_by p xs + 1
  count_set_more xs i y = elim (cases_lt i (length xs)) [
    | inl within ↦ omega (arith, count_set_within xs i y y within, one_at_most y)
    | inr past ↦ omega (arith, ap (count_by p) (set_past xs i y past))
  ]

  -- what does not pass makes them no more
  count_set_no : (xs : List X) (i : ℕ) (y : X) → p y ≡ false → count_by p (slice_set xs i y) ≤ count_by p xs
  count_set_no xs i y fails = elim (cases_lt i (length xs)) [
    | inl within ↦ omega (arith, count_set_within xs i y y within, ap one fails)
    | inr past ↦ omega (arith, ap (count_by p) (set_past xs i y past))
  ]

  -- in place of what passed there is one that passes still
  count_set_still : (xs : List X) (i : ℕ) (y d : X) → i < length xs → p (slice_index_or xs i d) ≡ true → count_by p (slice_set xs i y) ≤ count_by p xs
  count_set_still xs i y d within passes = omega (arith, count_set_within xs i y d within, one_at_most y, ap one passes)

  -- or one fewer
  count_set_less : (xs : List X) (i : ℕ) (y d : X) → i < length xs → p (slice_index_or xs i d) ≡ true → p y ≡ false → count_by p (slice_set xs i y) + 1 ≤ count_by p xs
  count_set_less xs i y d within passes fails = omega (arith, count_set_within xs i y d within, ap one passes, ap one fails)

-- ---- a hand-over

blocked_owners : (s : TableState) (h : ℕ) (ws : List Wait) → (blocked_all s h ws).owners ≡ s.owners
blocked_owners s h [] = refl
blocked_owners s h (w ∷ ws) = blocked_owners (block s w.key.process h) h ws

blocked_live : (s : TableState) (h : ℕ) (ws : List Wait) → (blocked_all s h ws).live ≡ s.live
blocked_live s h [] = refl
blocked_live s h (w ∷ ws) = blocked_live (block s w.key.process h) h ws

give_to_live : (s : TableState) (r : ℕ) (ws : List Wait) → (give_to s r ws).live ≡ s.live
give_to_live s r [] = refl
give_to_live s r (first ∷ others) = blocked_live (activate (record s { owners = slice_set s.owners r (Some first.key) }) first.key.process) first.key.process others

module _ (s : TableState) (r : ℕ) where
  -- what is left of the waits where r goes to its first waiter
  given_waits : (first : Wait) (others : List Wait) → waiters_of s r ≡ first ∷ others → length (give_to s r (first ∷ others)).waits + 1 ≤ length s.waits
  given_waits first others are =
      let n = first.key.process in
      let t = record s { owners = slice_set s.owners r (Some first.key) } in
      let waiting : Among first s.waits = (filter_gives (λ w. nat_eq w.resource r) s.waits first (subst (Among first) (sym are) (inl refl))).0 in
      omega (arith, activate_fewer s first waiting, ap length (blocked_waits (activate t n) n others))

  given_owners : (first : Wait) (others : List Wait) → (give_to s r (first ∷ others)).owners ≡ slice_set s.owners r (Some first.key)
  given_owners first others = blocked_owners (activate (record s { owners = slice_set s.owners r (Some first.key) }) first.key.process) first.key.process others

  give_to_held : (ws : List Wait) → waiters_of s r ≡ ws → held (give_to s r ws) ≤ held s
  give_to_held [] are = omega (arith, count_set_no is_some s.owners r None refl)
  give_to_held (first ∷ others) are =
      omega (arith, given_waits first others are, count_set_more is_some s.owners r (Some first.key), ap (count_by is_some) (given_owners first others))

  -- r was owned
  module _ (k : Key) (owned : owner_of s r ≡ Some k) (within : r < length s.owners) where
    give_to_less : (ws : List Wait) → waiters_of s r ≡ ws → held (give_to s r ws) + 1 ≤ held s
    give_to_less [] are = omega (arith, count_set_less is_some s.owners r None None within (ap is_some owned) refl)
    give_to_less (first ∷ others) are =
        omega (arith, given_waits first others are, count_set_still is_some s.owners r (Some first.key) None within (ap is_some owned), ap (count_by is_some) (given_owners first others))

    pub hand_over_less : held (hand_over s r) + 1 ≤ held s
    hand_over_less = give_to_less (waiters_of s r) refl

pub hand_over_live : (s : TableState) (r : ℕ) → (hand_over s r).live ≡ s.live
hand_over_live s r = give_to_live s r (waiters_of s r)

hand_overs_held : (s : TableState) (rs : List ℕ) → held (fold hand_over s rs) ≤ held s
hand_overs_held s [] = omega arith
hand_overs_held s (r ∷ rs) = omega (arith, hand_overs_held (hand_over s r) rs, give_to_held s r (waiters_of s r) refl)

hand_overs_live : (s : TableState) (rs : List ℕ) → (fold hand_over s rs).live ≡ s.live
hand_overs_live s [] = refl
hand_overs_live s (r ∷ rs) = hand_overs_live (hand_over s r) rs ∙ hand_over_live s r

-- ---- the end of a transaction

record FreesSlot (s : TableState) (n : ℕ) (u : TableState) : Type 0 where
  waits : u.waits ≡ s.waits
  owners : u.owners ≡ s.owners
  live : u.live ≡ slice_set s.live n false

free_slot_frees : (s : TableState) (n : ℕ) → FreesSlot s n (free_slot s n)
free_slot_frees s n = elim (cases_Bool (nat_lt (slice_index s.generations n) s.config.generation_limit)) [
  | inl again ↦ rw again record { waits = refl; owners = refl; live = refl }
  | inr spent ↦ rw spent record { waits = refl; owners = refl; live = refl }
]

pub vacate_less : (s : TableState) (n : ℕ) (rs : List ℕ) → slice_index_or s.live n false ≡ true → to_end (free_slot (fold hand_over s rs) n) + 1 ≤ to_end s
vacate_less s n rs live =
    let t = fold hand_over s rs in
    let frees = free_slot_frees t n in
    let same : t.live ≡ s.live = hand_overs_live s rs in
    let fewer : count_by (λ b. b) (slice_set s.live n false) + 1 ≤ count_by (λ b. b) s.live = count_set_less (λ b. b) s.live n false false (true_within s.live n live) live refl in
    omega (arith, hand_overs_held s rs, fewer, ap length frees.waits, ap (count_by is_some) frees.owners, ap (count_by (λ b. b)) (frees.live ∙ ap (λ l. slice_set l n false) same))

-- somebody is live
pub live_to_end : (s : TableState) (n : ℕ) → slice_index_or s.live n false ≡ true → 1 ≤ to_end s
live_to_end s n live = omega (arith, count_set_less (λ b. b) s.live n false false (true_within s.live n live) live refl)

-- ---- a wait that is taken back

pub activate_held : (s : TableState) (n : ℕ) → held (activate s n) ≤ held s
activate_held s n = omega (arith, activate_no_more s n)

pub activate_less : (s : TableState) (n r : ℕ) → wait_of s n ≡ Some r → held (activate s n) + 1 ≤ held s
activate_less s n r waits =
    let here = waits_here s n r waits in
    let fewer : length (activate s here.wait.key.process).waits + 1 ≤ length s.waits = activate_fewer s here.wait here.among in
    let same : (activate s here.wait.key.process).waits ≡ (activate s n).waits = ap (λ m. (activate s m).waits) here.process in
    omega (arith, fewer, ap length same)

-- ---- how many there can be

few_waits : (s : TableState) → Laws s → length s.waits ≤ s.config.processes
few_waits s laws =
    let few : length (map process_of s.waits) ≤ s.config.processes
    = length-NoRepeat (map process_of s.waits) s.config.processes laws.lawful.well_formed.waits_once (λ m among.
    let which = among_map_gives process_of s.waits m among in
    omega (arith, waiter_within s laws.lawful.well_formed which.0 which.1, which.2)) in
    omega (arith, few, length-map s.waits process_of)

pub few_to_end : (s : TableState) → Laws s → to_end s ≤ 16908288
few_to_end s laws =
    let sizes = laws.lawful.well_formed.sizes in
    let range = laws.lawful.well_formed.config in
    omega (arith, few_waits s laws, count_by-le-length is_some s.owners, count_by-le-length (λ b. b) s.live, sizes.live, sizes.owners, range.processes.1, range.resources.1)
