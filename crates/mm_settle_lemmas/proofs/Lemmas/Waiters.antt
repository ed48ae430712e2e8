-- Those that wait for a resource stand in its queue, and those that wait for a process in the queues of what it owns.
use Rattle.std.proofs.Common.{◌≡◌, ◌≢◌, ◌++◌, ℕ, Bool, true, false, List, [], ◌∷◌, length, nat_eq, Option, Some, None, option_map, option_and_then, inl, inr, refl, sym, ap, ◌∙◌}
use Rattle.std.specs.Option.{option_map_or}
use Rattle.std.proofs.lemmas.Bool.{cases_Bool, ne_eqb, eq-eqb}
use Rattle.mm_arena.specs.declared.key.Key.{Key}
use Rattle.mm_rules.specs.TableState.{TableState, Wait, owner_of, wait_of, waited_for, waiters_of, owns}
use Rattle.mm_lists.specs.Members.{Among}
use Rattle.mm_lists.proofs.Lemmas.Filter.{filter_keeps}
use Rattle.mm_rules.proofs.States.Lookups.{waits_here}
use Rattle.mm_bit_set.specs.BitSet.{has}
use Rattle.mm_settle_lemmas.specs.Steps.Marked.{AddsWaiters}

-- nobody is taken out
abbrev pub Keeps : List Bool → List Bool → Type 0
Keeps old new = (k : ℕ) → has old k ≡ true → has new k ≡ true

-- a wait that is added last is not that of another process
pub waited_front : (ws : List Wait) (w : Wait) (k : ℕ) → w.key.process ≢ k → waited_for (ws ++ w ∷ []) k ≡ waited_for ws k
waited_front [] w k apart = rw (ne_eqb w.key.process k apart) refl
waited_front (v ∷ ws) w k apart = elim (cases_Bool (nat_eq v.key.process k)) [
  | inl here ↦ rw here refl
  | inr past ↦ rw past (waited_front ws w k apart)
]

-- whoever waits for r is in its queue
pub in_queue : (s : TableState) (r k : ℕ) → wait_of s k ≡ Some r → (w : Wait) × Among w (waiters_of s r) × (w.key.process ≡ k)
in_queue s r k waits =
    let here = waits_here s k r waits in
    (here.wait, filter_keeps (λ w. nat_eq w.resource r) s.waits here.wait here.among (eq-eqb here.wait.resource r here.resource), here.process)

-- ---- those that wait for n, by the queues of what it owns

owned_by : (s : TableState) (n r : ℕ) (o : Option Key) → option_map (λ (k : Key). k.process) o ≡ Some n → option_map_or (λ (k : Key). nat_eq k.process n) o false ≡ true
owned_by s n r None e = (let never : None ≡ Some n = e in absurd (cc))
owned_by s n r (Some k) e = eq-eqb k.process n (let same : Some k.process ≡ Some n = e in cc)

waits_by : (s : TableState) (k n : ℕ) (o : Option ℕ) → wait_of s k ≡ o → option_map (λ (k : Key). k.process) (option_and_then (owner_of s) o) ≡ Some n
    → (r : ℕ) × (wait_of s k ≡ Some r) × (owns s n r ≡ true)
waits_by s k n None waits e = (let never : None ≡ Some n = e in absurd (cc))
waits_by s k n (Some r) waits e = (r, waits, owned_by s n r (owner_of s r) e)

-- whoever adds each queue of what n owns adds all that wait for n
pub adds_by_queues : (s : TableState) (n : ℕ) (old new : List Bool) → Keeps old new → length new ≡ length old
    → ((r : ℕ) → owns s n r ≡ true → (w : Wait) → Among w (waiters_of s r) → has new w.key.process ≡ true) → AddsWaiters s n old new
adds_by_queues s n old new kept sized queues = record {
  kept = kept;
  added = λ k holder.
      let waits = waits_by s k n (wait_of s k) refl holder in
      let found = in_queue s waits.0 k waits.1 in
      ap (has new) (sym found.2) ∙ queues waits.0 waits.2 found.0 found.1;
  sized = sized;
}
