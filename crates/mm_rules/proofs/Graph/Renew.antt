-- A renewal keeps the laws: a waiting process that shows its own label becomes active, and then blocks on its holder again.
use Rattle.std.specs.Prelude.{ℕ, Some, None, ◌≡◌, ◌≢◌, ◌≤◌, ◌<◌, ◌⊎◌}
use Rattle.std.proofs.Common.{inl, inr, arith, sym, ap, ◌∙◌}
use Rattle.std.proofs.Math.Decide.{ℕ_discrete}
use Rattle.mm_rules.specs.Graph.{Graph, WaitsFor, IsWaiting, LabelReturned, IsSettled}
use Rattle.mm_rules.proofs.Graph.Laws.{IsLawful, HasLabelMakers}
use Rattle.mm_rules.proofs.Graph.Change.{Blocks, Activates, Loose, same_then, same_back}
use Rattle.mm_rules.proofs.Graph.Activate.{activate_keeps_laws}
use Rattle.mm_rules.proofs.Graph.LabelMakers.{made_labels_are_fresh, activate_keeps_makers}
use Rattle.mm_rules.proofs.Graph.LabelReturned.{activate_keeps_returned}
use Rattle.mm_rules.proofs.Graph.Update.{IsUpdate, update, is_update}
use Rattle.mm_rules.proofs.Graph.HandOver.{KeepsAll, update_activates, block_keeps_all}

-- m, which waits for h and shows its own label, gets the new label L
pub record Renews (number : ℕ → ℕ) (g : Graph) (m h L : ℕ) (new : Graph) : Type 0 where
  pub waits : WaitsFor g m h
  pub own : g.public m ≡ g.private m
  pub above : g.public m < L
  pub named : number L ≡ m
  pub now : IsUpdate g m (Some h) L L new

module _ (number : ℕ → ℕ) (g new : Graph) (m h L : ℕ) (r : Renews number g m h L new) (laws : IsLawful g) (makers : HasLabelMakers number g) where
  module _ (free : Graph) (freed : IsUpdate g m None (g.private m) (g.public m) free) where
    goes : Activates g m h free
    goes = update_activates g free m h r.waits (inr (inl r.own)) freed

    free_lawful : IsLawful free
    free_lawful = activate_keeps_laws g free m h goes laws

    free_makers : HasLabelMakers number free
    free_makers = activate_keeps_makers number g free m h goes makers

    above : free.public m < L
    above = omega (arith, freed.public, r.above)

    comes : Blocks free m h L new
    comes = record {
      was_active = freed.holder;
      within = omega (arith, freed.processes, laws.within m h r.waits);
      apart = laws.apart m h r.waits;
      above = above;
      fresh = made_labels_are_fresh number free m L free_makers free_lawful.ordered r.named above (omega (arith, freed.processes, laws.within m h r.waits));
      processes = r.now.processes ∙ sym freed.processes;
      waits = r.now.holder;
      private_now = r.now.private;
      public_now = r.now.public;
      others = λ k apart. same_then free g new k (same_back g free k (freed.others k apart)) (r.now.others k apart);
    }

    kept : KeepsAll number free new
    kept = block_keeps_all number free new m h L comes r.named free_lawful free_makers

    returned : (v i : ℕ) → v ≢ m → LabelReturned g v i → LabelReturned new v i
    returned v i apart was = kept.returned v i (activate_keeps_returned g free m h v i goes apart was)

  pub renew_keeps_laws : IsLawful new
  renew_keeps_laws = (kept (update g m None (g.private m) (g.public m)) (is_update g m None (g.private m) (g.public m))).lawful

  pub renew_keeps_returned : (v i : ℕ) → v ≢ m → LabelReturned g v i → LabelReturned new v i
  renew_keeps_returned = returned (update g m None (g.private m) (g.public m)) (is_update g m None (g.private m) (g.public m))

  -- nobody else shows the new label, or has it
  new_label_fresh : (k : ℕ) → k < g.processes → k ≢ m → (g.private k ≢ L) × (g.public k ≢ L)
  new_label_fresh = made_labels_are_fresh number g m L makers laws.ordered r.named r.above (laws.within m h r.waits).0

  -- a wait of the new graph stood before
  waits_before : (k j : ℕ) → WaitsFor new k j → WaitsFor g k j
  waits_before k j waits = elim (ℕ_discrete k m) [
    | yes e ↦ rw e (r.waits ∙ sym r.now.holder ∙ rw e at waits)
    | no apart ↦ sym (r.now.others k apart).holder ∙ waits
  ]

  shown_after : (k : ℕ) → ((k ≡ m) × (new.public k ≡ L) × (new.private k ≡ L)) ⊎ ((k ≢ m) × (new.public k ≡ g.public k) × (new.private k ≡ g.private k))
  shown_after k = elim (ℕ_discrete k m) [
    | yes e ↦ inl (e, rw e r.now.public, rw e r.now.private)
    | no apart ↦ inr (apart, (r.now.others k apart).public, (r.now.others k apart).private)
  ]

  -- where no label could be raised before, who showed m's old label is free to go
  pub renewed_loose : (n : ℕ) → n < g.processes → n ≢ m → g.public n ≡ g.private m → IsSettled g → Loose new n
  renewed_loose n n_in apart shows settled = record {
    unowned = λ k waiting e.
        let before : WaitsFor g k waiting.0 = waits_before k waiting.0 waiting.1 in
        let at_n : new.public n ≡ g.public n = (r.now.others n apart).public in
        elim (shown_after k) [
          | inl now ↦ (new_label_fresh n n_in apart).1 (sym at_n ∙ sym e ∙ now.2)
          | inr same ↦ same.0 (laws.own k m (laws.within k waiting.0 before).0 (laws.within m h r.waits).0 (sym same.2 ∙ e ∙ at_n ∙ shows))
        ];
    falls = λ k j waits.
        let before : WaitsFor g k j = waits_before k j waits in
        let down : g.public j ≤ g.public k = settled k j before in
        elim (shown_after j) [
          | inl now ↦ inr (now.1 ∙ sym now.2)
          | inr same ↦ elim (shown_after k) [
            | inl at_k ↦ inl (omega (arith, at_k.1, same.1, ap g.public at_k.0, r.above))
            | inr at_k ↦ inl (omega (arith, at_k.1, same.1))
          ]
        ];
  }

-- where no label can be raised, who shows no waiting process's own label is free to go
pub settled_loose : (g : Graph) (n : ℕ) → IsSettled g → ((m : ℕ) → IsWaiting g m → g.private m ≢ g.public n) → Loose g n
settled_loose g n settled unowned = record { unowned = unowned; falls = λ k j waits. inl (settled k j waits) }
