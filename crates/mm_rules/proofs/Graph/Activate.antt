-- An activation keeps the laws: the process that becomes active stands before the end of no walk that relays a label, and tops what it ended.
use Rattle.std.specs.Prelude.{ℕ, ◌≡◌, ◌≢◌, ◌≤◌, ◌⊎◌, List, [], ◌∷◌}
use Rattle.std.proofs.Common.{inl, inr, arith, sym, ◌∙◌, refl}
use Rattle.std.proofs.Math.Decide.{ℕ_discrete}
use Rattle.mm_rules.specs.Graph.{Graph, WaitsFor, IsWaiting, Walk, Path, Relays, Propagated, Tops, Topped, RisingLaw, PropagatedLaw, ToppedLaw}
use Rattle.mm_rules.proofs.Graph.Laws.{OrderedLaw, OwnLaw, WithinLaw, ApartLaw, IsLawful}
use Rattle.mm_rules.proofs.Graph.Change.{Loose, Activates}
use Rattle.mm_rules.proofs.Graph.Walks.{one_holder, active_waits_not, begins_waiting, OnTheWay}

-- along the waits from k, k included, stands a process that tops M
record ToppedBy (g : Graph) (M k : ℕ) : Type 0 where
  top : ℕ
  places : List ℕ
  along : Path g k places top
  tops : Tops g M top

-- k shows at most M, or its own label
abbrev IsLow : Graph → ℕ → ℕ → Type 0
IsLow g M k = (g.public k ≤ M) ⊎ (g.public k ≡ g.private k)

module _ (g new : Graph) (n h : ℕ) (a : Activates g n h new) where
  -- who waits now is another than n, and waited before
  waits_before : (k j : ℕ) → WaitsFor new k j → (k ≢ n) × WaitsFor g k j
  waits_before k j waits =
      let apart : k ≢ n = λ e. active_waits_not new k (rw e a.now_active) (j, waits) in
      (apart, sym (a.holders k apart) ∙ waits)

  activate_keeps_ordered : OrderedLaw g → OrderedLaw new
  activate_keeps_ordered law k k_in = omega (arith, law k, a.publics k, a.privates k)

  activate_keeps_own : OwnLaw g → OwnLaw new
  activate_keeps_own law i j i_in j_in same = law i j (omega arith) (omega arith) (sym (a.privates i) ∙ same ∙ a.privates j)

  activate_keeps_within : WithinLaw g → WithinLaw new
  activate_keeps_within law k j waits = omega (arith, law k j (waits_before k j waits).1)

  activate_keeps_apart : ApartLaw g → ApartLaw new
  activate_keeps_apart law k j waits = law k j (waits_before k j waits).1

  activate_keeps_rising : RisingLaw g → RisingLaw new
  activate_keeps_rising law k j waits = elim (law k j (waits_before k j waits).1) [
    | inl own ↦ inl (a.publics k ∙ own ∙ sym (a.privates k))
    | inr up ↦ inr (omega (arith, a.publics k, a.publics j))
  ]

  -- n leaves no walk to a process that waits: its holder is active, or it shows its own label and so relays none, or it shows one that no waiting process has as its own
  leaves_no_walk : (m j : ℕ) (places : List ℕ) → IsWaiting g m → WaitsFor g n j → Relays g (g.private m) n → (Loose g n → IsLow g (g.private m) n)
      → Walk g (OnTheWay g (g.private m) m) j places m → ⊥
  leaves_no_walk m j places waiting waits relays low rest = elim a.may [
    | inl active ↦
        let begins : IsWaiting g j = begins_waiting g (OnTheWay g (g.private m) m) j places m rest waiting in
        active_waits_not g j (rw (one_holder g n j h waits a.waited) active) begins
    | inr more ↦ elim more [
      | inl own ↦ omega (arith, relays.older, relays.shown)
      | inr loose ↦ elim (low loose) [
        | inl shown ↦ loose.unowned m waiting (omega (arith, relays.shown))
        | inr own ↦ omega (arith, relays.older, relays.shown)
      ]
    ]
  ]

  -- who relays a label, and shows none above it, is followed by one that does not either, or shows its own
  low_next : (M k j : ℕ) → WaitsFor g k j → Relays g M k → Loose g n → IsLow g M k → IsLow g M j
  low_next M k j waits relays loose low = elim (loose.falls k j waits) [
    | inr own ↦ inr own
    | inl down ↦ elim low [
      | inl shown ↦ inl (omega arith)
      | inr own ↦ absurd (omega (arith, relays.older, relays.shown))
    ]
  ]

  activate_keeps_walk : (m : ℕ) → IsWaiting g m → (k : ℕ) (places : List ℕ) → (Loose g n → IsLow g (g.private m) k)
      → Walk g (OnTheWay g (g.private m) m) k places m → Walk new (OnTheWay new (g.private m) m) k places m
  activate_keeps_walk m waiting k [] low end = end
  activate_keeps_walk m waiting k (j ∷ places) low ((apart, relays), waits, rest) =
      let here : k ≢ n = λ e. leaves_no_walk m j places waiting (rw e at waits) (rw e at relays) (rw e at low) rest in
      let still : Relays new (g.private m) k = record { older = omega (arith, a.privates k); shown = omega (arith, a.publics k) } in
      let next : Loose g n → IsLow g (g.private m) j = λ loose. low_next (g.private m) k j waits relays loose (low loose) in
      ((apart, still), a.holders k here ∙ waits, activate_keeps_walk m waiting j places next rest)

  activate_keeps_propagated : PropagatedLaw g → PropagatedLaw new
  activate_keeps_propagated law m j k waits k_in apart meets =
      let before : WaitsFor g m j = (waits_before m j waits).1 in
      let shows : g.public k ≡ g.private m = sym (a.publics k) ∙ meets ∙ a.privates m in
      let was : Propagated g (g.private m) k m = law m j k before (omega arith) apart shows in
      rw (a.privates m) record {
        apart = apart;
        places = was.places;
        along = activate_keeps_walk m (j, before) k was.places (λ loose. inl (omega arith)) was.along;
      }

  -- who is not n tops a label still, and n tops what it shows
  activate_keeps_tops : (M k : ℕ) → k ≢ n → Tops g M k → Tops new M k
  activate_keeps_tops M k apart (inl active) = inl (a.holders k apart ∙ active.0, omega (arith, a.publics k))
  activate_keeps_tops M k apart (inr waiting) = inr ((waiting.0.0, a.holders k apart ∙ waiting.0.1), omega (arith, a.privates k))

  activated_tops : (M k : ℕ) → k ≡ n → M ≤ g.public k → Tops new M k
  activated_tops M k e below = inl (rw e a.now_active, omega (arith, a.publics k))

  -- where the way to the top led through n, n itself tops the label now, unless one before it does
  topped_still : RisingLaw g → (M k : ℕ) (places : List ℕ) (m : ℕ) → M ≤ g.public k → Path g k places m → Tops g M m → ToppedBy new M k
  topped_still rising M k [] m below end tops = record {
    top = k;
    places = [];
    along = refl;
    tops = elim (ℕ_discrete k n) [
      | yes e ↦ activated_tops M k e below
      | no apart ↦ activate_keeps_tops M k apart (rw end tops)
    ];
  }
  topped_still rising M k (j ∷ places) m below (t, waits, rest) tops = elim (ℕ_discrete k n) [
    | yes e ↦ record { top = k; places = []; along = refl; tops = activated_tops M k e below }
    | no apart ↦
        let still : WaitsFor new k j = a.holders k apart ∙ waits in
        elim (rising k j waits) [
          | inl own ↦ record { top = k; places = []; along = refl; tops = inr ((j, still), omega (arith, a.privates k)) }
          | inr up ↦
              let later : ToppedBy new M j = topped_still rising M j places m (omega arith) rest tops in
              record { top = later.top; places = j ∷ later.places; along = (tt, still, later.along); tops = later.tops }
        ]
  ]

  activate_keeps_topped : RisingLaw g → ToppedLaw g → ToppedLaw new
  activate_keeps_topped rising law k j waits =
      let was : Topped g k = law k j (waits_before k j waits).1 in
      let now : ToppedBy new (g.public k) k = topped_still rising (g.public k) k was.places was.top (omega arith) was.along was.tops in
      record { top = now.top; places = now.places; along = now.along; tops = rw (a.publics k) now.tops }

  pub activate_keeps_laws : IsLawful g → IsLawful new
  activate_keeps_laws laws = record {
    ordered = activate_keeps_ordered laws.ordered;
    own = activate_keeps_own laws.own;
    within = activate_keeps_within laws.within;
    apart = activate_keeps_apart laws.apart;
    rising = activate_keeps_rising laws.rising;
    propagated = activate_keeps_propagated laws.propagated;
    topped = activate_keeps_topped laws.rising laws.topped;
  }
