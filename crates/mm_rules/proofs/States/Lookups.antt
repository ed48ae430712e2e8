-- How waits, owners and holders are read: who waits for what, and that each wait is held by another live process.
use Rattle.std.proofs.Common.{◌≡◌, ◌≢◌, ℕ, ◌<◌, true, false, map, find, nat_eq, Option, Some, None, MatchOption, is_some, option_map, option_and_then, slice_index, slice_index_or, IsTrue, refl, sym, ap, ◌∙◌, arith}
use Rattle.std.proofs.lemmas.Bool.{eqb-true, eqb-false, and_parts}
use Rattle.mm_arena.specs.declared.key.Key.{Key}
use Rattle.mm_lists.specs.Members.{NoRepeat, Among}
use Rattle.mm_lists.proofs.Lemmas.Among.{all_at}
use Rattle.mm_lists.proofs.Lemmas.Find.{found_among, not_found}
use Rattle.mm_lists.proofs.Lemmas.NoRepeat.{found_by_number}
use Rattle.mm_lists.proofs.Lemmas.Set.{true_within}
use Rattle.mm_rules.specs.Graph.{WaitsFor, IsWaiting}
use Rattle.mm_rules.specs.TableState.{TableState, Wait, IsSized, is_live, owner_of, is_of, wait_of, is_waiting, holder_of, graph_of}
use Rattle.mm_rules.specs.Laws.{IsHeld, WellFormed}

-- ---- options

pub none_of_is_some : {X : Type 0} (o : Option X) → is_some o ≡ false → o ≡ None
none_of_is_some None e = refl
none_of_is_some (Some x) e = absurd (cc)

pub map_none : {X Y : Type 0} (f : X → Y) (o : Option X) → option_map f o ≡ None → o ≡ None
map_none f None e = refl
map_none f (Some x) e = (let never : Some (f x) ≡ None = e in absurd (cc))

is_some_gives : {X : Type 0} (o : Option X) → is_some o ≡ true → (x : X) × (o ≡ Some x)
is_some_gives None e = absurd (cc)
is_some_gives (Some x) e = (x, refl)

-- ---- keys

pub live_within : (s : TableState) (k : Key) → IsSized s → IsTrue (is_live s k) → k.process < s.config.processes
live_within s k sized live =
    let parts : (slice_index_or s.live k.process false ≡ true) × (nat_eq (slice_index s.generations k.process) k.generation ≡ true)
    = and_parts (slice_index_or s.live k.process false) (nat_eq (slice_index s.generations k.process) k.generation) live in
    omega (arith, true_within s.live k.process parts.0, sized.live)

-- ---- waits

-- a wait that is one of the state's
pub record WaitsHere (s : TableState) (n r : ℕ) : Type 0 where
  pub wait : Wait
  pub among : Among wait s.waits
  pub process : wait.key.process ≡ n
  pub resource : wait.resource ≡ r

some_of_map : {X Y : Type 0} (f : X → Y) (o : Option X) (y : Y) → option_map f o ≡ Some y → (x : X) × (o ≡ Some x) × (f x ≡ y)
some_of_map f None y e = (let never : None ≡ Some y = e in absurd (cc))
some_of_map f (Some x) y e = (x, refl, (let same : Some (f x) ≡ Some y = e in cc))

pub waits_here : (s : TableState) (n r : ℕ) → wait_of s n ≡ Some r → WaitsHere s n r
waits_here s n r waits =
    let found : (w : Wait) × (find (is_of n) s.waits ≡ Some w) × (w.resource ≡ r) = some_of_map (λ (w : Wait). w.resource) (find (is_of n) s.waits) r waits in
    let here : Among found.0 s.waits × (is_of n found.0 ≡ true) = found_among (is_of n) s.waits found.0 found.1 in
    record { wait = found.0; among = here.0; process = eqb-true found.0.key.process n here.1; resource = found.2 }

wait_is : (s : TableState) (w : Wait) (n : ℕ) → NoRepeat (map (λ w. w.key.process) s.waits) → Among w s.waits → w.key.process ≡ n → wait_of s n ≡ Some w.resource
wait_is s w n once among e = ap (option_map (λ (w : Wait). w.resource)) (found_by_number (λ (w : Wait). w.key.process) s.waits w n once among e)

-- where n does not wait, no wait is its
pub waits_of_others : (s : TableState) (n : ℕ) → wait_of s n ≡ None → (w : Wait) → Among w s.waits → w.key.process ≢ n
waits_of_others s n active w among =
    eqb-false w.key.process n (not_found (is_of n) s.waits w (map_none (λ (x : Wait). x.resource) (find (is_of n) s.waits) active) among)

-- ---- holders

pub holder_is : (s : TableState) (n r : ℕ) (k : Key) → wait_of s n ≡ Some r → owner_of s r ≡ Some k → holder_of s n ≡ Some k.process
holder_is s n r k waits owned = rw (waits, owned) refl

pub no_holder : (s : TableState) (n : ℕ) → wait_of s n ≡ None → holder_of s n ≡ None
no_holder s n active = rw active refl

pub record IsHolder (s : TableState) (n h : ℕ) : Type 0 where
  pub resource : ℕ
  pub owner : Key
  pub waits : wait_of s n ≡ Some resource
  pub owned : owner_of s resource ≡ Some owner
  pub process : owner.process ≡ h

holder_parts : (s : TableState) (n h : ℕ) (o : Option ℕ) → wait_of s n ≡ o → option_map (λ (k : Key). k.process) (option_and_then (owner_of s) o) ≡ Some h → IsHolder s n h
holder_parts s n h None waits e = (let never : None ≡ Some h = e in absurd (cc))
holder_parts s n h (Some r) waits e =
    let owned : (k : Key) × (owner_of s r ≡ Some k) × (k.process ≡ h) = some_of_map (λ (k : Key). k.process) (owner_of s r) h e in
    record { resource = r; owner = owned.0; waits = waits; owned = owned.1; process = owned.2 }

is_holder : (s : TableState) (n h : ℕ) → WaitsFor (graph_of s) n h → IsHolder s n h
is_holder s n h waits = holder_parts s n h (wait_of s n) refl waits

held_by : (s : TableState) (w : Wait) (o : Option Key) → owner_of s w.resource ≡ o → MatchOption o ⊥ (λ k. k.process ≢ w.key.process)
    → (k : Key) × (owner_of s w.resource ≡ Some k) × (k.process ≢ w.key.process)
held_by s w None e held = absurd held
held_by s w (Some k) e held = (k, e, held)

module _ (s : TableState) (formed : WellFormed s) where
  live_and_held : (w : Wait) → Among w s.waits → IsTrue (is_live s w.key) × IsHeld s w
  live_and_held w among = all_at (λ w. IsTrue (is_live s w.key) × IsHeld s w) s.waits w formed.waits among

  -- the owner of what a member of the waits waits for
  pub held : (w : Wait) → Among w s.waits → (k : Key) × (owner_of s w.resource ≡ Some k) × (k.process ≢ w.key.process)
  held w among = held_by s w (owner_of s w.resource) refl (live_and_held w among).1

  pub waiter_live : (w : Wait) → Among w s.waits → IsTrue (is_live s w.key)
  waiter_live w among = (live_and_held w among).0

  pub waiter_within : (w : Wait) → Among w s.waits → w.key.process < s.config.processes
  waiter_within w among = live_within s w.key formed.sizes (waiter_live w among)

  process_within : (n r : ℕ) → wait_of s n ≡ Some r → n < s.config.processes
  process_within n r waits =
      let here : WaitsHere s n r = waits_here s n r waits in
      omega (arith, here.process, waiter_within here.wait here.among)

  pub waiter_waits : (w : Wait) (n : ℕ) → Among w s.waits → w.key.process ≡ n → wait_of s n ≡ Some w.resource
  waiter_waits w n among e = wait_is s w n formed.waits_once among e

  -- whoever waits has a holder
  has_holder : (n r : ℕ) → wait_of s n ≡ Some r → IsWaiting (graph_of s) n
  has_holder n r waits =
      let here : WaitsHere s n r = waits_here s n r waits in
      let owned : (k : Key) × (owner_of s here.wait.resource ≡ Some k) × (k.process ≢ here.wait.key.process) = held here.wait here.among in
      (owned.0.process, holder_is s n r owned.0 waits (ap (owner_of s) (sym here.resource) ∙ owned.1))

  pub waiting_has_holder : (n : ℕ) → IsTrue (is_waiting s n) → IsWaiting (graph_of s) n
  waiting_has_holder n waiting =
      let waits : (r : ℕ) × (wait_of s n ≡ Some r) = is_some_gives (wait_of s n) waiting in
      has_holder n waits.0 waits.1

  pub holder_within : (n h : ℕ) → WaitsFor (graph_of s) n h → (n < s.config.processes) × (h < s.config.processes)
  holder_within n h waits =
      let holder : IsHolder s n h = is_holder s n h waits in
      (process_within n holder.resource holder.waits, omega (arith, holder.process, live_within s holder.owner formed.sizes (formed.owners holder.resource holder.owner holder.owned)))

  pub holder_apart : (n h : ℕ) → WaitsFor (graph_of s) n h → n ≢ h
  holder_apart n h waits e =
      let holder : IsHolder s n h = is_holder s n h waits in
      let here : WaitsHere s n holder.resource = waits_here s n holder.resource holder.waits in
      let owned : (k : Key) × (owner_of s here.wait.resource ≡ Some k) × (k.process ≢ here.wait.key.process) = held here.wait here.among in
      let same : Some owned.0 ≡ Some holder.owner = sym owned.1 ∙ ap (owner_of s) here.resource ∙ holder.owned in
      let key : owned.0 ≡ holder.owner = cc in
      owned.2 (ap (λ (k : Key). k.process) key ∙ holder.process ∙ sym e ∙ sym here.process)

pub waiting_is_some : (s : TableState) (n h : ℕ) → WaitsFor (graph_of s) n h → IsTrue (is_waiting s n)
waiting_is_some s n h waits = let holder : IsHolder s n h = is_holder s n h waits in rw holder.waits refl
