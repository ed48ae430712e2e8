-- A block keeps the laws: nobody had the new label, and the process that blocks was active, so it left no place on any walk.
use Rattle.std.specs.Prelude.{ℕ, ◌≡◌, ◌≢◌, ◌⊎◌, [], ⊤}
use Rattle.std.proofs.Common.{inl, inr, arith, sym, ◌∙◌, refl}
use Rattle.std.proofs.Math.Decide.{ℕ_discrete}
use Rattle.mm_rules.specs.Graph.{Graph, WaitsFor, Propagated, Tops, Topped, RisingLaw, PropagatedLaw, ToppedLaw}
use Rattle.mm_rules.proofs.Graph.Laws.{OrderedLaw, OwnLaw, WithinLaw, ApartLaw, IsLawful}
use Rattle.mm_rules.proofs.Graph.Change.{SameAt, Blocks}
use Rattle.mm_rules.proofs.Graph.Walks.{active_waits_not, walk_again, OnTheWay}

module _ (g new : Graph) (n h L : ℕ) (b : Blocks g n h L new) where
  -- who waits in the new graph is n, or waited before
  waits_before : (k j : ℕ) → WaitsFor new k j → ((k ≡ n) × (j ≡ h)) ⊎ ((k ≢ n) × WaitsFor g k j)
  waits_before k j waits = elim (ℕ_discrete k n) [
    | yes e ↦ inl (e, (cc))
    | no apart ↦ inr (apart, sym (b.others k apart).holder ∙ waits)
  ]

  -- n was active, so a process that waited is another, and waits still
  waits_still : (k j : ℕ) → WaitsFor g k j → (k ≢ n) × WaitsFor new k j
  waits_still k j waits =
      let apart : k ≢ n = λ e. active_waits_not g k (rw e b.was_active) (j, waits) in
      (apart, (b.others k apart).holder ∙ waits)

  block_keeps_ordered : OrderedLaw g → OrderedLaw new
  block_keeps_ordered law k = grind (arith, law k, b.others k, ℕ_discrete k n)

  block_keeps_own : OwnLaw g → OwnLaw new
  block_keeps_own law i j i_in j_in = grind (arith, law i j, b.others i, b.others j, b.fresh i, b.fresh j, ℕ_discrete i n, ℕ_discrete j n)

  block_keeps_within : WithinLaw g → WithinLaw new
  block_keeps_within law k j waits = grind (arith, law k j, waits_before k j waits)

  block_keeps_apart : ApartLaw g → ApartLaw new
  block_keeps_apart law k j waits = grind (arith, law k j, waits_before k j waits)

  block_keeps_rising : RisingLaw g → RisingLaw new
  block_keeps_rising law k j waits = grind (arith, law k j, waits_before k j waits, b.others k, b.others j, ℕ_discrete j n)

  block_keeps_relays : (M m k j : ℕ) → WaitsFor g k j → OnTheWay g M m k → OnTheWay new M m k × WaitsFor new k j
  block_keeps_relays M m k j waits (apart, relays) =
      let still : (k ≢ n) × WaitsFor new k j = waits_still k j waits in
      let same : SameAt g new k = b.others k still.0 in
      ((apart, record { older = omega arith; shown = omega arith }), still.1)

  block_keeps_propagated : WithinLaw g → PropagatedLaw g → PropagatedLaw new
  block_keeps_propagated within law m j k waits k_in apart meets = elim (waits_before m j waits) [
    | inl now ↦ absurd (grind (arith, b.others k, b.fresh k))
    | inr before ↦
        let other : k ≢ n = grind (arith, b.fresh m, within m j, b.others m) in
        let was : Propagated g (g.private m) k m = law m j k before.1 (omega arith) apart (grind (arith, b.others k)) in
        rw (b.others m before.0).private record {
          apart = apart;
          places = was.places;
          along = walk_again g new _ (OnTheWay new (g.private m) m) (block_keeps_relays (g.private m) m) k was.places m was.along;
        }
  ]

  -- where n topped a label as an active process, it tops it by its new label
  blocked_tops : (M : ℕ) → Tops g M n → Tops new M n
  blocked_tops M (inl active) = inr ((h, b.waits), omega (arith, active.1))
  blocked_tops M (inr waiting) = absurd (active_waits_not g n b.was_active waiting.0)

  block_keeps_tops : (M j : ℕ) → Tops g M j → Tops new M j
  block_keeps_tops M j tops = elim (ℕ_discrete j n) [
    | yes e ↦ rw e (blocked_tops M (rw e at tops))
    | no apart ↦
        let same : SameAt g new j = b.others j apart in
        elim tops [
          | inl active ↦ inl (same.holder ∙ active.0, omega arith)
          | inr waiting ↦ inr ((waiting.0.0, same.holder ∙ waiting.0.1), omega arith)
        ]
  ]

  block_keeps_topped : ToppedLaw g → ToppedLaw new
  block_keeps_topped law k j waits = elim (waits_before k j waits) [
    | inl now ↦ record { top = k; places = []; along = refl; tops = inr ((j, waits), grind arith) }
    | inr before ↦
        let was : Topped g k = law k j before.1 in
        record {
          top = was.top;
          places = was.places;
          along = walk_again g new _ (λ i. ⊤) (λ i i_for w t. (t, (waits_still i i_for w).1)) k was.places was.top was.along;
          tops = rw (b.others k before.0).public (block_keeps_tops (g.public k) was.top was.tops);
        }
  ]

  pub block_keeps_laws : IsLawful g → IsLawful new
  block_keeps_laws laws = record {
    ordered = block_keeps_ordered laws.ordered;
    own = block_keeps_own laws.own;
    within = block_keeps_within laws.within;
    apart = block_keeps_apart laws.apart;
    rising = block_keeps_rising laws.rising;
    propagated = block_keeps_propagated laws.within laws.propagated;
    topped = block_keeps_topped laws.topped;
  }
