-- The grants of a call: how they are found, that they are the waits that ended, and that there are no more than processes.
use Rattle.std.proofs.Common.{◌≡◌, ◌⊎◌, ◌<◌, ◌≤◌, ℕ, Bool, true, false, List, [], ◌∷◌, length, map, filter, nat_eq, Option, Some, None, option_map, option_and_then, if◌then◌else◌, slice_index_or, inl, inr, refl, sym, ap, subst, ◌∙◌, arith}
use Rattle.std.specs.Option.{option_map_or}
use Rattle.std.specs.List.{filter_map, range_with_len, cons_option}
use Rattle.std.proofs.Math.ListN.{length-map}
use Rattle.std.proofs.lemmas.Bool.{cases_Bool, cases_eq, lt-ltb, eqb-true, eq-eqb}
use Rattle.mm_arena.specs.declared.key.Key.{Key}
use Rattle.mm_lists.specs.Members.{Among, NoRepeat}
use Rattle.mm_lists.proofs.Lemmas.Among.{among_map_gives}
use Rattle.mm_lists.proofs.Lemmas.NoRepeat.{length-NoRepeat}
use Rattle.mm_lists.proofs.Lemmas.Range.{among_range, among_range_gives, no_repeat_range}
use Rattle.mm_rules.specs.TableState.{TableState, owner_of, wait_of}
use Rattle.mm_rules.specs.Laws.{Laws}
use Rattle.mm_rules.proofs.States.Lookups.{WaitsHere, waits_here, waiter_within, holder_is, holder_apart}
use Rattle.mm_settled.specs.declared.reply.Grant.{Grant}
use Rattle.mm_settled.specs.Grants.{waits_for, to_waiter, grant_of, grants, EndsWaits}
use Rattle.mm_settled.specs.private.Lists.{given_to, given}
use Rattle.mm_settle_lemmas.specs.Touched.{changed_processes}
use Rattle.mm_settled.proofs.Lemmas.Changed.{nobody_is_changed}
use Rattle.mm_settled.proofs.Lemmas.Ends.{HandsOn, owner_in_range}

-- ---- one resource

waits_true : (s : TableState) (n r : ℕ) → wait_of s n ≡ Some r → waits_for s n r ≡ true
waits_true s n r waits = ap (λ o. option_map_or (nat_eq r) o false) waits ∙ eq-eqb r r refl

pub waits_by : (r : ℕ) (o : Option ℕ) → option_map_or (nat_eq r) o false ≡ true → o ≡ Some r
waits_by r None holds = absurd (cc)
waits_by r (Some q) holds = ap Some (sym (eqb-true r q holds))

-- nobody waits for what it owns
pub owner_waits_not : (s : TableState) → Laws s → (r : ℕ) (k : Key) → owner_of s r ≡ Some k → waits_for s k.process r ≡ false
owner_waits_not s laws r k owned = elim (cases_Bool (waits_for s k.process r)) [
  | inr fails ↦ fails
  | inl holds ↦
      let waits : wait_of s k.process ≡ Some r = waits_by r (wait_of s k.process) holds in
      absurd (holder_apart s laws.lawful.well_formed k.process k.process (holder_is s k.process r k waits owned) refl)
]

grant_by : (old new : TableState) (r : ℕ) (o : Option Key) → owner_of new r ≡ o → grant_of old new r ≡ option_and_then (to_waiter old r) o
grant_by old new r o is = ap (option_and_then (to_waiter old r)) is

none_granted_by : (old new : TableState) (r : ℕ) (o : Option Key) → owner_of new r ≡ o → ((k : Key) → owner_of new r ≡ Some k → waits_for old k.process r ≡ false) → grant_of old new r ≡ None
none_granted_by old new r None is not_waiting = grant_by old new r None is
none_granted_by old new r (Some k) is not_waiting = grant_by old new r (Some k) is ∙ ap (λ b. if b then Some (given_to r k) else None) (not_waiting k is)

-- its owner did not wait for it
pub none_granted : (old new : TableState) (r : ℕ) → ((k : Key) → owner_of new r ≡ Some k → waits_for old k.process r ≡ false) → grant_of old new r ≡ None
none_granted old new r not_waiting = none_granted_by old new r (owner_of new r) refl not_waiting

given_by : (old new : TableState) (r : ℕ) (o : Option Key) → owner_of new r ≡ o → r < new.config.resources → ((k : Key) → owner_of new r ≡ Some k → wait_of old k.process ≡ Some r) → given new r ≡ grant_of old new r
given_by old new r None is within waited = ap (λ b. if b then option_map (given_to r) (owner_of new r) else None) (lt-ltb r new.config.resources within) ∙ ap (option_map (given_to r)) is ∙ sym (grant_by old new r None is)
given_by old new r (Some k) is within waited =
    ap (λ b. if b then option_map (given_to r) (owner_of new r) else None) (lt-ltb r new.config.resources within) ∙ ap (option_map (given_to r)) is
    ∙ sym (grant_by old new r (Some k) is ∙ ap (λ b. if b then Some (given_to r k) else None) (waits_true old k.process r (waited k is)))

-- what a grant says
granted_by : (old new : TableState) (r : ℕ) (o : Option Key) (g : Grant) → owner_of new r ≡ o → option_and_then (to_waiter old r) o ≡ Some g
    → (g.resource ≡ r) × (owner_of new r ≡ Some g.key) × (wait_of old g.key.process ≡ Some r)
granted_by old new r None g is gives = absurd (cc)
granted_by old new r (Some k) g is gives = elim (cases_Bool (waits_for old k.process r)) [
  | inl holds ↦
      let some : Some (given_to r k) ≡ Some g = sym (ap (λ b. if b then Some (given_to r k) else None) holds) ∙ gives in
      let same : given_to r k ≡ g = cc in (
        ap (λ (h : Grant). h.resource) (sym same),
        is ∙ ap (λ (h : Grant). Some h.key) same,
        subst (λ (h : Grant). wait_of old h.key.process ≡ Some r) same (waits_by r (wait_of old k.process) holds),
      )
  | inr fails ↦
      let none : None ≡ Some g = sym (ap (λ b. if b then Some (given_to r k) else None) fails) ∙ gives in
      absurd (cc)
]

pub granted : (old new : TableState) (r : ℕ) (g : Grant) → grant_of old new r ≡ Some g → (g.resource ≡ r) × (owner_of new r ≡ Some g.key) × (wait_of old g.key.process ≡ Some r)
granted old new r g gives = granted_by old new r (owner_of new r) g refl gives

grant_here : (old new : TableState) (r : ℕ) (k : Key) → owner_of new r ≡ Some k → wait_of old k.process ≡ Some r → grant_of old new r ≡ Some (given_to r k)
grant_here old new r k owned waited = grant_by old new r (Some k) owned ∙ ap (λ b. if b then Some (given_to r k) else None) (waits_true old k.process r waited)

-- ---- lists of them

filter_map_none : {X Y : Type 0} (h : X → Option Y) (xs : List X) → ((x : X) → h x ≡ None) → filter_map h xs ≡ []
filter_map_none h [] none = refl
filter_map_none h (x ∷ xs) none = rw (none x) (filter_map_none h xs none)

among_cons : {Y : Type 0} (o : Option Y) (ys : List Y) (y : Y) → Among y (cons_option o ys) → (o ≡ Some y) ⊎ Among y ys
among_cons None ys y among = inr among
among_cons (Some z) ys y (inl same) = inl (ap Some (sym same))
among_cons (Some z) ys y (inr later) = inr later

among_cons_here : {Y : Type 0} (o : Option Y) (ys : List Y) (y : Y) → o ≡ Some y → Among y (cons_option o ys)
among_cons_here None ys y is = absurd (cc)
among_cons_here (Some z) ys y is = inl (let same : z ≡ y = cc in sym same)

among_cons_later : {Y : Type 0} (o : Option Y) (ys : List Y) (y : Y) → Among y ys → Among y (cons_option o ys)
among_cons_later None ys y among = among
among_cons_later (Some z) ys y among = inr among

pub filter_map_gives : {X Y : Type 0} (h : X → Option Y) (xs : List X) (y : Y) → Among y (filter_map h xs) → (x : X) × Among x xs × (h x ≡ Some y)
filter_map_gives h [] y among = absurd among
filter_map_gives h (x ∷ xs) y among = elim (among_cons (h x) (filter_map h xs) y among) [
  | inl here ↦ (x, inl refl, here)
  | inr later ↦ (let found = filter_map_gives h xs y later in (found.0, inr found.1, found.2))
]

pub filter_map_keeps : {X Y : Type 0} (h : X → Option Y) (xs : List X) (x : X) (y : Y) → Among x xs → h x ≡ Some y → Among y (filter_map h xs)
filter_map_keeps h [] x y among gives = absurd among
filter_map_keeps h (z ∷ zs) x y (inl same) gives = among_cons_here (h z) (filter_map h zs) y (ap h (sym same) ∙ gives)
filter_map_keeps h (z ∷ zs) x y (inr later) gives = among_cons_later (h z) (filter_map h zs) y (filter_map_keeps h zs x y later gives)

-- ---- no grants

pub no_grants : (old new : TableState) → ((r : ℕ) (k : Key) → owner_of new r ≡ Some k → waits_for old k.process r ≡ false) → grants old new ≡ []
no_grants old new not_waiting = filter_map_none (grant_of old new) (range_with_len 0 old.config.resources) (λ r. none_granted old new r (not_waiting r))

pub same_owners_grant_none : (old new : TableState) → Laws old → new.owners ≡ old.owners → grants old new ≡ []
same_owners_grant_none old new laws same = no_grants old new (λ r k owned. owner_waits_not old laws r k (sym (ap (λ os. slice_index_or os r None) same) ∙ owned))

-- who owns something that was free did not wait
pub owner_or_idle_grants_none : (old new : TableState) → Laws old → ((r : ℕ) (k : Key) → owner_of new r ≡ Some k → (owner_of old r ≡ Some k) ⊎ (wait_of old k.process ≡ None)) → grants old new ≡ []
owner_or_idle_grants_none old new laws was = no_grants old new (λ r k owned. elim (was r k owned) [
  | inl before ↦ owner_waits_not old laws r k before
  | inr idle ↦ ap (λ o. option_map_or (nat_eq r) o false) idle
])

-- where nobody was changed, nobody's wait ended
pub nobody_changed_grants_none : (old new : TableState) → Laws old → Laws new → changed_processes old new ≡ [] → grants old new ≡ []
nobody_changed_grants_none old new laws after none = no_grants old new (λ r k owned. elim (cases_Bool (waits_for old k.process r)) [
  | inr fails ↦ fails
  | inl holds ↦
      let waited : wait_of old k.process ≡ Some r = waits_by r (wait_of old k.process) holds in
      let here = waits_here old k.process r waited in
      let within : k.process < old.config.processes = omega (arith, waiter_within old laws.lawful.well_formed here.wait here.among, here.process) in
      let same = nobody_is_changed old new k.process within none in
      absurd (holder_apart new after.lawful.well_formed k.process k.process (holder_is new k.process r k (same.wait ∙ waited) owned) refl)
])

pub grants_alike : (old mid new : TableState) → new.owners ≡ mid.owners → grants old new ≡ grants old mid
grants_alike old mid new same = ap (λ os. filter_map (λ r. option_and_then (to_waiter old r) (slice_index_or os r None)) (range_with_len 0 old.config.resources)) same

-- ---- the grants of hand-overs

module _ (s new : TableState) (n : ℕ) (p : ℕ → Bool) (laws : Laws s) (on : HandsOn s n p new) where
  other_none : (r : ℕ) → p r ≡ false → grant_of s new r ≡ None
  other_none r other = none_granted s new r (λ k owned. owner_waits_not s laws r k (sym (on.others r other) ∙ owned))

  given_all : (rs : List ℕ) → ((r : ℕ) → Among r rs → r < s.config.resources) → filter_map (given new) (filter p rs) ≡ filter_map (grant_of s new) rs
  given_all [] within = refl
  given_all (r ∷ rs) within = elim (cases_Bool (p r)) [
    | inl holds ↦
        let inside : r < new.config.resources = omega (arith, within r (inl refl), ap (λ c. c.resources) on.config) in
        let here : given new r ≡ grant_of s new r = given_by s new r (owner_of new r) refl inside (λ k owned. on.handed r k holds owned) in
        rw holds (ap (λ o. cons_option o (filter_map (given new) (filter p rs))) here ∙ ap (cons_option (grant_of s new r)) (given_all rs (λ q later. within q (inr later))))
    | inr fails ↦ rw fails (given_all rs (λ q later. within q (inr later)) ∙ sym (ap (λ o. cons_option o (filter_map (grant_of s new) rs)) (other_none r fails)))
  ]

  -- those that own what was handed over now are the grants
  pub given_are_grants : filter_map (given new) (filter p (range_with_len 0 s.config.resources)) ≡ grants s new
  given_are_grants = given_all (range_with_len 0 s.config.resources) (λ r among. let place = among_range_gives 0 s.config.resources r among in omega arith)

  pub ends_waits : Laws new → EndsWaits s new n (grants s new)
  ends_waits after = record {
    each = λ g among.
        let found = filter_map_gives (grant_of s new) (range_with_len 0 s.config.resources) g among in
        let says = granted s new found.0 g found.2 in
        let waited : wait_of s g.key.process ≡ Some g.resource = says.2 ∙ ap Some (sym says.0) in
        let owned : owner_of new g.resource ≡ Some g.key = ap (owner_of new) says.0 ∙ says.1 in
        record { waited = waited; owns = owned; goes_on = goes_on g waited owned };
    all = λ m r apart waited none. elim (on.ended m apart) [
      | inl same ↦ (let never : None ≡ Some r = sym none ∙ same ∙ waited in absurd (cc))
      | inr was ↦
          let q = was.resource in
          let same : Some q ≡ Some r = sym was.waited ∙ waited in
          let resource : q ≡ r = cc in
          let inside : q < new.config.resources = owner_in_range new after q was.key was.owns in
          let within : q < s.config.resources = omega (arith, inside, ap (λ c. c.resources) on.config) in
          let waits : wait_of s was.key.process ≡ Some q = ap (wait_of s) was.process ∙ was.waited in (
            given_to q was.key,
            filter_map_keeps (grant_of s new) (range_with_len 0 s.config.resources) q (given_to q was.key) (among_range 0 s.config.resources q (omega arith) (omega arith)) (grant_here s new q was.key was.owns waits),
            was.process,
            resource,
          )
    ];
  }
    where
      goes_on : (g : Grant) → wait_of s g.key.process ≡ Some g.resource → owner_of new g.resource ≡ Some g.key → wait_of new g.key.process ≡ None
      goes_on g waited owned = elim (cases_eq g.key.process n) [
        | inl e ↦ ap (wait_of new) e ∙ on.own
        | inr apart ↦ elim (on.ended g.key.process apart) [
          | inr was ↦ was.goes_on
          | inl same ↦ absurd (holder_apart new after.lawful.well_formed g.key.process g.key.process (holder_is new g.key.process g.resource g.key (same ∙ waited) owned) refl)
        ]
      ]

-- ---- there are no more grants than processes

module _ (old new : TableState) (laws : Laws old) where
  waited_here : (rs : List ℕ) (m : ℕ) → Among m (map (λ (g : Grant). g.key.process) (filter_map (grant_of old new) rs)) → (r : ℕ) × Among r rs × (wait_of old m ≡ Some r)
  waited_here rs m among =
      let which = among_map_gives (λ (g : Grant). g.key.process) (filter_map (grant_of old new) rs) m among in
      let found = filter_map_gives (grant_of old new) rs which.0 which.1 in
      (found.0, found.1, ap (wait_of old) which.2 ∙ (granted old new found.0 which.0 found.2).2)

  once_by : (r : ℕ) (rs : List ℕ) (o : Option Grant) → grant_of old new r ≡ o → NoRepeat (r ∷ rs) → NoRepeat (map (λ (g : Grant). g.key.process) (filter_map (grant_of old new) rs))
      → NoRepeat (map (λ (g : Grant). g.key.process) (cons_option o (filter_map (grant_of old new) rs)))
  once_by r rs None is once rest = rest
  once_by r rs (Some g) is once rest = (
    λ again.
        let other = waited_here rs g.key.process again in
        let same : Some r ≡ Some other.0 = sym (granted old new r g is).2 ∙ other.2 in
        let here : r ≡ other.0 = cc in
        once.0 (subst (λ q. Among q rs) (sym here) other.1),
    rest,
  )

  processes_once : (rs : List ℕ) → NoRepeat rs → NoRepeat (map (λ (g : Grant). g.key.process) (filter_map (grant_of old new) rs))
  processes_once [] once = tt
  processes_once (r ∷ rs) once = once_by r rs (grant_of old new r) refl once (processes_once rs once.1)

  pub few_grants : length (grants old new) ≤ old.config.processes
  few_grants =
      let processes = map (λ (g : Grant). g.key.process) (grants old new) in
      let range = range_with_len 0 old.config.resources in
      let few : length processes ≤ old.config.processes
      = length-NoRepeat processes old.config.processes (processes_once range (no_repeat_range 0 old.config.resources))
      (λ m among.
      let waits = waited_here range m among in
      let here : WaitsHere old m waits.0 = waits_here old m waits.0 waits.2 in
      omega (arith, waiter_within old laws.lawful.well_formed here.wait here.among, here.process)) in
      omega (arith, few, length-map (grants old new) (λ (g : Grant). g.key.process))
