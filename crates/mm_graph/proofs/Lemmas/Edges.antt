-- The list of edges is that of the waits.
use Rattle.std.proofs.lemmas.Grind.{common_steps}
use Rattle.std.proofs.Common.{rules, ◌≡◌, ◌+◌, ◌<◌, ◌↔◌, ℕ, Bool, true, false, List, [], ◌∷◌, ◌++◌, map, Option, Some, None, option_map, option_and_then, nat_eq, nat_lt, length, ◌≤◌, ◌⊎◌, Ok, Err, slice_index, slice_index_or, if◌then◌else◌, IsTrue, inl, inr, refl, sym, ap, subst, ◌∙◌, arith, zero-add}
use Rattle.std.specs.List.{cons_option, filter_map, range_with_len}
use Rattle.std.proofs.lemmas.Bool.{and_parts, eqb-true}
use Rattle.std.proofs.lemmas.List.{map-id}
use Rattle.std.proofs.lemmas.List.Elements.{filter_map-append}
use Rattle.std.proofs.lemmas.List.FromFn.{map-range_with_len_more}
use Rattle.mm_arena.specs.declared.key.Key.{Key}
use Rattle.mm_lists.specs.Members.{Among, NoRepeat}
use Rattle.mm_lists.proofs.Lemmas.Among.{among_map_gives}
use Rattle.mm_lists.proofs.Lemmas.Range.{among_range, no_repeat_range}
use Rattle.mm_rules.specs.TableState.{TableState, Wait, key_of, is_live, owner_of, wait_of, has_verdict, private_of, public_of}
use Rattle.mm_rules.specs.Event.{tenant_of, state_of, mode_of, owner_told}
use Rattle.mm_rules.specs.declared.reply.State.{State}
use Rattle.mm_rules.specs.declared.reply.Mode.{Mode}
use Rattle.mm_rules.specs.declared.reply.Mode.TheVariants.{Active, Waiting, Convicted}
use Rattle.mm_rules.specs.declared.refusal.Refusal.TheVariants.{NoResource}
use Rattle.std.specs.Result.{result_ok}
use Rattle.mm_rules.specs.Laws.{Laws}
use Rattle.mm_rules.proofs.States.Lookups.{WaitsHere, waits_here, waiter_waits, waiter_live, waiter_within}
use Rattle.mm_rules.proofs.States.Vacate.{live_process}
use Rattle.mm_graph.specs.Edges.{IsEdge, edge_over, edge_at}
use Rattle.mm_graph.specs.declared.edges.Edge.{Edge}

-- ---- lists

pub filter_map_keeps : {X Y : Type 0} (h : X → Option Y) (xs : List X) (x : X) (y : Y) → Among x xs → h x ≡ Some y → Among y (filter_map h xs)
filter_map_keeps h [] x y found gives = absurd found
filter_map_keeps {X} {Y} h (z ∷ zs) x y (inl e) gives = let here : h z ≡ Some y = ap h (sym e) ∙ gives in rw here (inl refl)
filter_map_keeps {X} {Y} h (z ∷ zs) x y (inr later) gives =
    let rest : Among y (filter_map h zs) = filter_map_keeps h zs x y later gives in
    by (h z) refl rest
  where
    by : (o : Option Y) → h z ≡ o → Among y (filter_map h zs) → Among y (filter_map h (z ∷ zs))
    by None e rest = rw e rest
    by (Some w) e rest = rw e (inr rest)

given_later : {X Y : Type 0} (h : X → Option Y) (z : X) (zs : List X) (y : Y) → (x : X) × Among x zs × (h x ≡ Some y) → (x : X) × Among x (z ∷ zs) × (h x ≡ Some y)
given_later h z zs y rest = (rest.0, inr rest.1, rest.2)

given_by : {X Y : Type 0} (h : X → Option Y) (z : X) (zs : List X) (y : Y) (o : Option Y) → h z ≡ o → (Among y (filter_map h zs) → (x : X) × Among x zs × (h x ≡ Some y))
    → Among y (cons_option o (filter_map h zs)) → (x : X) × Among x (z ∷ zs) × (h x ≡ Some y)
given_by h z zs y None e further found = given_later h z zs y (further found)
given_by h z zs y (Some w) e further (inl same) = (z, inl refl, e ∙ ap Some (sym same))
given_by h z zs y (Some w) e further (inr later) = given_later h z zs y (further later)

pub filter_map_gives : {X Y : Type 0} (h : X → Option Y) (xs : List X) (y : Y) → Among y (filter_map h xs) → (x : X) × Among x xs × (h x ≡ Some y)
filter_map_gives h [] y found = absurd found
filter_map_gives h (z ∷ zs) y found = given_by h z zs y (h z) refl (λ later. filter_map_gives h zs y later) found

-- where what is given tells of what it was given, it is given once
module _ {X Y : Type 0} (h : X → Option Y) (back : Y → X) (tells : (x : X) (y : Y) → h x ≡ Some y → back y ≡ x) where
  stands : (z : X) (zs : List X) → Among z (map back (filter_map h zs)) → Among z zs
  stands z zs found =
      let from : (y : Y) × Among y (filter_map h zs) × (z ≡ back y) = among_map_gives back (filter_map h zs) z found in
      let given : (x : X) × Among x zs × (h x ≡ Some from.0) = filter_map_gives h zs from.0 from.1 in
      subst (λ x. Among x zs) (sym (from.2 ∙ tells given.0 from.0 given.2)) given.1

  once_by : (z : X) (zs : List X) (o : Option Y) → h z ≡ o → (Among z zs → ⊥) → NoRepeat (map back (filter_map h zs)) → NoRepeat (map back (cons_option o (filter_map h zs)))
  once_by z zs None e absent rest = rest
  once_by z zs (Some w) e absent rest = (λ again. absent (stands z zs (rw (tells z w e) at again)), rest)

  pub no_repeat_filter_map : (xs : List X) → NoRepeat xs → NoRepeat (map back (filter_map h xs))
  no_repeat_filter_map [] once = tt
  no_repeat_filter_map (z ∷ zs) once = once_by z zs (h z) refl once.0 (no_repeat_filter_map zs once.1)

range_more : (n : ℕ) → range_with_len 0 (n + 1) ≡ range_with_len 0 n ++ n ∷ []
range_more n =
    let mapped = map-range_with_len_more (λ (x : ℕ). x) 0 n n (zero-add n) in
    sym (map-id (range_with_len 0 (n + 1))) ∙ mapped ∙ ap (λ xs. xs ++ n ∷ []) (map-id (range_with_len 0 n))

-- one more process
pub edges_more : (s : TableState) (n : ℕ) → filter_map (edge_at s) (range_with_len 0 (n + 1)) ≡ filter_map (edge_at s) (range_with_len 0 n) ++ cons_option (edge_at s n) []
edges_more s n = ap (filter_map (edge_at s)) (range_more n) ∙ filter_map-append (edge_at s) (range_with_len 0 n) (n ∷ [])

-- ---- the edge of a process

-- an edge that is there, by its parts
record EdgeParts (s : TableState) (n : ℕ) (edge : Edge) : Type 0 where
  waits : wait_of s n ≡ Some edge.resource
  waiter : edge.waiter ≡ key_of s n
  held : owner_of s edge.resource ≡ Some edge.holder

over_parts : (s : TableState) (n r : ℕ) (edge : Edge) (o : Option Key) → wait_of s n ≡ Some r → owner_of s r ≡ o
    → option_map (λ h. record { waiter = key_of s n; resource = r; holder = h }) o ≡ Some edge → EdgeParts s n edge
over_parts s n r edge None waits held is = (let never : None ≡ Some edge = is in absurd (cc))
over_parts s n r edge (Some h) waits held is =
    let made : Edge = record { waiter = key_of s n; resource = r; holder = h } in
    let same : made ≡ edge = (let e : Some made ≡ Some edge = is in cc) in
    subst (EdgeParts s n) same record { waits = waits; waiter = refl; held = held }

at_parts : (s : TableState) (n : ℕ) (edge : Edge) (o : Option ℕ) → wait_of s n ≡ o → option_and_then (edge_over s n) o ≡ Some edge → EdgeParts s n edge
at_parts s n edge None waits is = (let never : None ≡ Some edge = is in absurd (cc))
at_parts s n edge (Some r) waits is = over_parts s n r edge (owner_of s r) waits refl is

edge_parts : (s : TableState) (n : ℕ) (edge : Edge) → edge_at s n ≡ Some edge → EdgeParts s n edge
edge_parts s n edge is = at_parts s n edge (wait_of s n) refl is

pub edge_process : (s : TableState) (n : ℕ) (edge : Edge) → edge_at s n ≡ Some edge → edge.waiter.process ≡ n
edge_process s n edge is = ap (λ (k : Key). k.process) (edge_parts s n edge is).waiter

same_wait : (w : Wait) (k : Key) (r : ℕ) → w.key ≡ k → w.resource ≡ r → w ≡ record { key = k; resource = r }
same_wait w k r key resource = rw (← key, ← resource) refl

-- a live key is that of its process
live_key : (s : TableState) (k : Key) → IsTrue (is_live s k) → key_of s k.process ≡ k
live_key s k live =
    let parts = and_parts (slice_index_or s.live k.process false) (nat_eq (slice_index s.generations k.process) k.generation) live in
    let generation : slice_index s.generations k.process ≡ k.generation = eqb-true (slice_index s.generations k.process) k.generation parts.1 in
    rw generation refl

module _ (s : TableState) (laws : Laws s) where
  waits_live : (n r : ℕ) → wait_of s n ≡ Some r → slice_index_or s.live n false ≡ true
  waits_live n r waits =
      let here : WaitsHere s n r = waits_here s n r waits in
      ap (λ i. slice_index_or s.live i false) (sym here.process) ∙ live_process s here.wait.key (waiter_live s laws.lawful.well_formed here.wait here.among)

  idle_by : (n : ℕ) (o : Option ℕ) → wait_of s n ≡ o → slice_index_or s.live n false ≡ false → wait_of s n ≡ None
  idle_by n None is dead = is
  idle_by n (Some r) is dead = (let never : true ≡ false = sym (waits_live n r is) ∙ dead in absurd (cc))

  -- a process without a live key has no edge
  pub no_tenant_no_edge : (n : ℕ) → tenant_of s n ≡ None → edge_at s n ≡ None
  no_tenant_no_edge n none = ap (option_and_then (edge_over s n)) (idle_by n (wait_of s n) refl (dead_by (slice_index_or s.live n false) none))
    where
      dead_by : (b : Bool) → (if b then Some (key_of s n) else None) ≡ None → b ≡ false
      dead_by true is = (let never : Some (key_of s n) ≡ None = is in absurd (cc))
      dead_by false is = refl

  -- the edge of a process is a wait of the table
  edge_is_wait : (n : ℕ) (edge : Edge) → edge_at s n ≡ Some edge → IsEdge s edge
  edge_is_wait n edge is =
      let parts : EdgeParts s n edge = edge_parts s n edge is in
      let here : WaitsHere s n edge.resource = waits_here s n edge.resource parts.waits in
      let live : key_of s here.wait.key.process ≡ here.wait.key = live_key s here.wait.key (waiter_live s laws.lawful.well_formed here.wait here.among) in
      let key : here.wait.key ≡ edge.waiter = sym live ∙ ap (key_of s) here.process ∙ sym parts.waiter in
      let whole : here.wait ≡ record { key = edge.waiter; resource = edge.resource } = same_wait here.wait edge.waiter edge.resource key here.resource in
      record { waits = subst (λ (w : Wait). Among w s.waits) whole here.among; held = parts.held }

  -- and each wait of the table is the edge of its process
  wait_is_edge : (edge : Edge) → IsEdge s edge → edge_at s edge.waiter.process ≡ Some edge
  wait_is_edge edge is =
      let waits : wait_of s edge.waiter.process ≡ Some edge.resource = waiter_waits s laws.lawful.well_formed (record { key = edge.waiter; resource = edge.resource }) edge.waiter.process is.waits refl in
      let live : key_of s edge.waiter.process ≡ edge.waiter = live_key s edge.waiter (waiter_live s laws.lawful.well_formed (record { key = edge.waiter; resource = edge.resource }) is.waits) in
      rw (waits, is.held, live) refl

  edge_within : (edge : Edge) → IsEdge s edge → edge.waiter.process < s.config.processes
  edge_within edge is = waiter_within s laws.lawful.well_formed (record { key = edge.waiter; resource = edge.resource }) is.waits

  -- ---- all edges

  pub edges_exact : (edge : Edge) → Among edge (filter_map (edge_at s) (range_with_len 0 s.config.processes)) ↔ IsEdge s edge
  edges_exact edge = (
    λ among.
        let given : (n : ℕ) × Among n (range_with_len 0 s.config.processes) × (edge_at s n ≡ Some edge)
        = filter_map_gives (edge_at s) (range_with_len 0 s.config.processes) edge among in
        edge_is_wait given.0 edge given.2,
    λ is.
        let within = edge_within edge is in
        filter_map_keeps (edge_at s) (range_with_len 0 s.config.processes) edge.waiter.process edge
        (among_range 0 s.config.processes edge.waiter.process (omega arith) (omega arith)) (wait_is_edge edge is),
  )

pub edges_once : (s : TableState) (n : ℕ) → NoRepeat (map (λ (edge : Edge). edge.waiter.process) (filter_map (edge_at s) (range_with_len 0 n)))
edges_once s n = no_repeat_filter_map (edge_at s) (λ (edge : Edge). edge.waiter.process) (edge_process s) (range_with_len 0 n) (no_repeat_range 0 n)

-- ---- what the reads of a table say of an edge

-- what `state` answers of the transaction that a process has
abbrev state_at : TableState → ℕ → State
state_at s n = record { mode = mode_of (wait_of s n) (has_verdict s n); private = private_of s n; public = public_of s n }

told_by : (s : TableState) (n : ℕ) (k : Key) (b : Bool) → slice_index_or s.live n false ≡ b → (if b then Some (key_of s n) else None) ≡ Some k
    → (k ≡ key_of s n) × (result_ok (state_of s k) ≡ Some (state_at s n))
told_by s n k false e is = (let never : None ≡ Some k = is in absurd (cc))
told_by s n k true e is =
    let same : key_of s n ≡ k = (let both : Some (key_of s n) ≡ Some k = is in cc) in
    (sym same, rw (← same, e) (search rules))

told : (s : TableState) (n : ℕ) (k : Key) → tenant_of s n ≡ Some k → (k ≡ key_of s n) × (result_ok (state_of s k) ≡ Some (state_at s n))
told s n k is = told_by s n k (slice_index_or s.live n false) refl is

-- `state` refuses no live key
pub never_stale : (s : TableState) (n : ℕ) (k : Key) → tenant_of s n ≡ Some k → result_ok (state_of s k) ≡ None → ⊥
never_stale s n k is none = (let never : Some (state_at s n) ≡ None = sym (told s n k is).1 ∙ none in absurd (cc))

pub mode_told : (s : TableState) (n : ℕ) (k : Key) (state : State) → tenant_of s n ≡ Some k → result_ok (state_of s k) ≡ Some state → state.mode ≡ mode_of (wait_of s n) (has_verdict s n)
mode_told s n k state is read =
    let both : Some state ≡ Some (state_at s n) = sym read ∙ (told s n k is).1 in
    let same : state ≡ state_at s n = cc in
    ap (λ (t : State). t.mode) same

-- an active transaction has no edge
active_waits_not : (o : Option ℕ) (v : Bool) → Active ≡ mode_of o v → o ≡ None
active_waits_not None v is = refl
active_waits_not (Some r) true is = (let never : Active ≡ Convicted r = is in absurd (cc))
active_waits_not (Some r) false is = (let never : Active ≡ Waiting r = is in absurd (cc))

pub no_edge_of_active : (s : TableState) (n : ℕ) (m : Mode) → m ≡ mode_of (wait_of s n) (has_verdict s n) → m ≡ Active → edge_at s n ≡ None
no_edge_of_active s n m is active = ap (option_and_then (edge_over s n)) (active_waits_not (wait_of s n) (has_verdict s n) (sym active ∙ is))

-- what the mode says is waited for
waits_by : (o : Option ℕ) (v : Bool) (r : ℕ) → (Waiting r ≡ mode_of o v) ⊎ (Convicted r ≡ mode_of o v) → o ≡ Some r
waits_by None v r (inl is) = (let never : Waiting r ≡ Active = is in absurd (cc))
waits_by None v r (inr is) = (let never : Convicted r ≡ Active = is in absurd (cc))
waits_by (Some q) true r (inl is) = (let never : Waiting r ≡ Convicted q = is in absurd (cc))
waits_by (Some q) true r (inr is) = (let same : Convicted r ≡ Convicted q = is in cc)
waits_by (Some q) false r (inl is) = (let same : Waiting r ≡ Waiting q = is in cc)
waits_by (Some q) false r (inr is) = (let never : Convicted r ≡ Waiting q = is in absurd (cc))

pub waits_for : (s : TableState) (n r q : ℕ) (m : Mode) → m ≡ mode_of (wait_of s n) (has_verdict s n) → r ≡ q → (m ≡ Waiting q) ⊎ (m ≡ Convicted q) → wait_of s n ≡ Some r
waits_for s n r q m is same (inl waiting) = waits_by (wait_of s n) (has_verdict s n) q (inl (sym waiting ∙ is)) ∙ ap Some (sym same)
waits_for s n r q m is same (inr convicted) = waits_by (wait_of s n) (has_verdict s n) q (inr (sym convicted ∙ is)) ∙ ap Some (sym same)

-- what `owner` answers
read_by : (s : TableState) (r : ℕ) (o : Option Key) (b : Bool) → result_ok (if b then Ok (owner_of s r) else Err NoResource) ≡ Some o → owner_of s r ≡ o
read_by s r o true is = (let same : Some (owner_of s r) ≡ Some o = is in cc)
read_by s r o false is = (let never : None ≡ Some o = is in absurd (cc))

pub owner_read : (s : TableState) (r : ℕ) (o : Option Key) → result_ok (owner_told s r) ≡ Some o → owner_of s r ≡ o
owner_read s r o is = read_by s r o (nat_lt r s.config.resources) is

past_end : (xs : List (Option Key)) (i : ℕ) → length xs ≤ i → slice_index_or xs i None ≡ None
past_end xs i past = grind (arith, common_steps)

refused_by : (s : TableState) (r : ℕ) (b : Bool) → nat_lt r s.config.resources ≡ b → length s.owners ≡ s.config.resources → result_ok (if b then Ok (owner_of s r) else Err NoResource) ≡ None
    → owner_of s r ≡ None
refused_by s r true e sized is = (let never : Some (owner_of s r) ≡ None = is in absurd (cc))
refused_by s r false e sized is = past_end s.owners r (grind (arith, common_steps))

pub owner_refused : (s : TableState) (r : ℕ) → Laws s → result_ok (owner_told s r) ≡ None → owner_of s r ≡ None
owner_refused s r laws is = refused_by s r (nat_lt r s.config.resources) refl laws.lawful.well_formed.sizes.owners is

-- who waits for what nobody owns has no edge
pub no_edge_to_nobody : (s : TableState) (n r : ℕ) → wait_of s n ≡ Some r → owner_of s r ≡ None → edge_at s n ≡ None
no_edge_to_nobody s n r waits free = rw (waits, free) refl

pub edge_made : (s : TableState) (n r : ℕ) (k h : Key) → tenant_of s n ≡ Some k → wait_of s n ≡ Some r → owner_of s r ≡ Some h → Some (record { waiter = k; resource = r; holder = h }) ≡ edge_at s n
edge_made s n r k h is waits held = rw (waits, held, (told s n k is).0) refl
