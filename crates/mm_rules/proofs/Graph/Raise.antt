-- A raise keeps the laws: public labels only grow, and what the holder's label had as a walk back is the raised one's walk with one place in front.
use Rattle.std.specs.Prelude.{ℕ, Option, Some, None, ◌≡◌, ◌≢◌, ◌≤◌, ◌<◌, ◌⊎◌, List, [], ◌∷◌, ⊤}
use Rattle.std.proofs.Common.{inl, inr, arith, sym, ap, ◌∙◌, refl}
use Rattle.std.proofs.Math.Decide.{ℕ_discrete}
use Rattle.mm_rules.specs.Graph.{Graph, WaitsFor, IsWaiting, Walk, Path, Relays, Propagated, Tops, Topped, RisingLaw, PropagatedLaw, ToppedLaw}
use Rattle.mm_rules.proofs.Graph.Laws.{OrderedLaw, OwnLaw, WithinLaw, ApartLaw, IsLawful}
use Rattle.mm_rules.proofs.Graph.Change.{Raises}
use Rattle.mm_rules.proofs.Graph.Walks.{one_holder, walk_again, OnTheWay}

-- along the waits of k, k included, stands a process that tops its label
topped_always : (g : Graph) (k : ℕ) → ToppedLaw g → (x : Option ℕ) → g.holder k ≡ x → Topped g k
topped_always g k law None active = record { top = k; places = []; along = refl; tops = inl (active, omega arith) }
topped_always g k law (Some h) waits = law k h waits

module _ (g new : Graph) (n h : ℕ) (r : Raises g n h new) where
  -- the raised one shows what its holder showed, and every other what it showed itself
  pub raised_shows : (k : ℕ) → ((k ≡ n) × (new.public k ≡ g.public h)) ⊎ ((k ≢ n) × (new.public k ≡ g.public k))
  raised_shows k = elim (ℕ_discrete k n) [
    | yes e ↦ inl (e, ap new.public e ∙ r.public_now)
    | no apart ↦ inr (apart, r.publics k apart)
  ]

  pub raise_lowers_nothing : (k : ℕ) → g.public k ≤ new.public k
  raise_lowers_nothing k = grind (arith, raised_shows k)

  waits_before : (k j : ℕ) → WaitsFor new k j → WaitsFor g k j
  waits_before k j waits = sym (r.holders k) ∙ waits

  raise_keeps_ordered : OrderedLaw g → OrderedLaw new
  raise_keeps_ordered law k k_in = omega (arith, law k, raise_lowers_nothing k, r.privates k)

  raise_keeps_own : OwnLaw g → OwnLaw new
  raise_keeps_own law i j i_in j_in same = law i j (omega arith) (omega arith) (sym (r.privates i) ∙ same ∙ r.privates j)

  raise_keeps_within : WithinLaw g → WithinLaw new
  raise_keeps_within law k j waits = omega (arith, law k j (waits_before k j waits))

  raise_keeps_apart : ApartLaw g → ApartLaw new
  raise_keeps_apart law k j waits = law k j (waits_before k j waits)

  raise_keeps_rising : RisingLaw g → RisingLaw new
  raise_keeps_rising law k j waits = elim (raised_shows k) [
    | inl now ↦
        let same : j ≡ h = one_holder g k j h (waits_before k j waits) (rw now.0 r.waits) in
        inr (omega (arith, ap g.public same, raise_lowers_nothing j))
    | inr before ↦ elim (law k j (waits_before k j waits)) [
      | inl own ↦ inl (before.1 ∙ own ∙ sym (r.privates k))
      | inr up ↦ inr (omega (arith, raise_lowers_nothing j))
    ]
  ]

  raise_keeps_relays : (M m k j : ℕ) → WaitsFor g k j → OnTheWay g M m k → OnTheWay new M m k × WaitsFor new k j
  raise_keeps_relays M m k j waits (apart, relays) =
      ((apart, record { older = omega (arith, r.privates k); shown = omega (arith, raise_lowers_nothing k) }), r.holders k ∙ waits)

  raise_keeps_walk : (M k m : ℕ) (was : Propagated g M k m) → Walk new (OnTheWay new M m) k was.places m
  raise_keeps_walk M k m was =
      walk_again g new (OnTheWay g M m) (OnTheWay new M m) (raise_keeps_relays M m) k was.places m was.along

  -- the walk back from the holder, with n in front
  raised_propagated : (m : ℕ) → IsLawful g → n ≢ m → IsWaiting g m → g.public h ≡ g.private m → Propagated new (g.private m) n m
  raised_propagated m laws apart waiting meets =
      let inside : (n < g.processes) × (h < g.processes) = laws.within n h r.waits in
      let relays : Relays new (g.private m) n = record { older = omega (arith, r.privates n, laws.ordered n); shown = omega arith } in
      let first : OnTheWay new (g.private m) m n = (apart, relays) in
      elim (ℕ_discrete h m) [
        | yes e ↦ record { apart = apart; places = h ∷ []; along = (first, r.holders n ∙ r.waits, e) }
        | no other ↦
            let was : Propagated g (g.private m) h m = laws.propagated m waiting.0 h waiting.1 inside.1 other meets in
            record { apart = apart; places = h ∷ was.places; along = (first, r.holders n ∙ r.waits, raise_keeps_walk (g.private m) h m was) }
      ]

  raise_keeps_propagated : IsLawful g → PropagatedLaw new
  raise_keeps_propagated laws m j k waits k_in apart meets =
      let before : WaitsFor g m j = waits_before m j waits in
      rw (r.privates m) (elim (raised_shows k) [
        | inl now ↦ rw now.0 (raised_propagated m laws (λ e. apart (now.0 ∙ e)) (j, before) (sym now.1 ∙ meets ∙ r.privates m))
        | inr same ↦
            let was : Propagated g (g.private m) k m = laws.propagated m j k before (omega arith) apart (sym same.1 ∙ meets ∙ r.privates m) in
            record { apart = apart; places = was.places; along = raise_keeps_walk (g.private m) k m was }
      ])

  raise_keeps_tops : (M j : ℕ) → Tops g M j → Tops new M j
  raise_keeps_tops M j (inl active) = inl (r.holders j ∙ active.0, omega (arith, raise_lowers_nothing j))
  raise_keeps_tops M j (inr waiting) = inr ((waiting.0.0, r.holders j ∙ waiting.0.1), omega (arith, r.privates j))

  pub raise_keeps_path : (k : ℕ) (places : List ℕ) (m : ℕ) → Path g k places m → Path new k places m
  raise_keeps_path = walk_again g new (λ i. ⊤) (λ i. ⊤) (λ i j waits t. (t, r.holders i ∙ waits))

  raise_keeps_topped : ToppedLaw g → ToppedLaw new
  raise_keeps_topped law k j waits = elim (raised_shows k) [
    | inl now ↦
        let was : Topped g h = topped_always g h law (g.holder h) refl in
        record {
          top = was.top;
          places = h ∷ was.places;
          along = (tt, r.holders k ∙ rw now.0 r.waits, raise_keeps_path h was.places was.top was.along);
          tops = rw now.1 (raise_keeps_tops (g.public h) was.top was.tops);
        }
    | inr same ↦
        let was : Topped g k = law k j (waits_before k j waits) in
        record {
          top = was.top;
          places = was.places;
          along = raise_keeps_path k was.places was.top was.along;
          tops = rw same.1 (raise_keeps_tops (g.public k) was.top was.tops);
        }
  ]

  pub raise_keeps_laws : IsLawful g → IsLawful new
  raise_keeps_laws laws = record {
    ordered = raise_keeps_ordered laws.ordered;
    own = raise_keeps_own laws.own;
    within = raise_keeps_within laws.within;
    apart = raise_keeps_apart laws.apart;
    rising = raise_keeps_rising laws.rising;
    propagated = raise_keeps_propagated laws;
    topped = raise_keeps_topped laws.topped;
  }
