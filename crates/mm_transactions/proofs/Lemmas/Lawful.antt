-- What holds of the waits of any transactions that a caller can hold.
use Rattle.std.proofs.Common.{◌≡◌, List, ℕ, ◌<◌, ◌≤◌, true, false, [], map, length, is_some, IsTrue, Option, Some, None, slice_index, slice_index_or, nat_eq, refl, ap, sym, subst, ◌∙◌, arith}
use Rattle.std.proofs.lemmas.List.{get_or-map, length-map}
use Rattle.std.proofs.lemmas.Bool.{eq-eqb, ne_eqb}
use Rattle.mm_arena.specs.Slots.{Slots, Place, never_used, place_at}
use Rattle.mm_lists.proofs.Lemmas.Among.{all_at, all_map}
use Rattle.mm_lists.proofs.Lemmas.Filter.{filter_none}
use Rattle.mm_queue.specs.Queues.{Queues}
use Rattle.mm_rules.specs.TableState.{Wait}
use Rattle.mm_transactions.specs.declared.transaction.Entry.{Entry}
use Rattle.mm_transactions.specs.Transactions.{is_live, queue_of, WaitsAreLawful}
use Rattle.mm_transactions.specs.private.Layout.{Arrival, arrival_in, arrivals_from, waits_of, seen, Each, IsConsistent}
use Rattle.mm_transactions.proofs.Lemmas.Arrivals.{arrival_in_slot, key_at, are_placed, length_arrivals}
use Rattle.mm_transactions.proofs.Lemmas.Waits.{all_waits, once, within_some}

module _ (ns : List ℕ) (s : Slots Entry) (q : Queues) (latest waiting : ℕ) (kept : IsConsistent ns s q latest waiting) where
  -- a slot with an arrival has a value
  has_value : (n : ℕ) (p : Place Entry) (a : Arrival) → arrival_in ns n p ≡ Some a → is_some p.value ≡ true
  has_value n p a is = by p.value refl
    where
      by : (o : Option Entry) → p.value ≡ o → is_some o ≡ true
      by None none = (let never : None ≡ Some a = sym (ap (λ v. arrival_in ns n (record { generation = p.generation; value = v })) none) ∙ is in absurd (cc))
      by (Some e) some = refl

  live : Each (λ a. IsTrue (is_live (seen ns s q latest) a.wait.key)) (arrivals_from ns 0 s.places)
  live n a there =
      let within : n < length s.places = omega (arith, within_some (arrivals_from ns 0 s.places) n a there, length_arrivals ns 0 s.places) in
      let value = has_value n (place_at s n) a (sym (arrival_in_slot ns s.places n) ∙ there) in
      let lives : slice_index_or (map (λ p. is_some p.value) s.places) n false ≡ true = get_or-map (λ p. is_some p.value) s.places n never_used false within ∙ value in
      let generation : slice_index (map (λ p. p.generation) s.places) n ≡ (place_at s n).generation = get_or-map (λ p. p.generation) s.places n never_used 0 within in
      let same : nat_eq (slice_index (map (λ p. p.generation) s.places) n) (place_at s n).generation ≡ true = eq-eqb _ (place_at s n).generation generation in
      subst (λ k. IsTrue (is_live (seen ns s q latest) k)) (sym (key_at ns s.places n a there)) (rw (lives, same) refl)

  in_range : Each (λ a. (a.wait.key.process < length s.places) × (a.wait.resource < length q.lists)) (arrivals_from ns 0 s.places)
  in_range n a there =
      (let own = are_placed ns s.places n a there in omega (arith, within_some (arrivals_from ns 0 s.places) n a there, length_arrivals ns 0 s.places), kept.in_range n a there)

  pub lawful : WaitsAreLawful (seen ns s q latest)
  lawful =
      let P : Wait → Type 0 = λ w. (w.key.process < length s.places) × (w.resource < length q.lists) in
      record {
        live = λ w among. all_at (λ w. IsTrue (is_live (seen ns s q latest) w.key)) (waits_of (arrivals_from ns 0 s.places)) w (all_waits (λ w. IsTrue (is_live (seen ns s q latest) w.key)) (arrivals_from ns 0 s.places) live) among;
        once = once (arrivals_from ns 0 s.places) (are_placed ns s.places);
        in_range = λ w among. (let both = all_at P (waits_of (arrivals_from ns 0 s.places)) w (all_waits P (arrivals_from ns 0 s.places) in_range) among in (simp length-map (both.0), both.1));
      }

  -- nobody waits for a resource that there is not
  pub none_past : (r : ℕ) → length q.lists ≤ r → queue_of (waits_of (arrivals_from ns 0 s.places)) r ≡ []
  none_past r past =
      filter_none (λ w. nat_eq w.resource r) (waits_of (arrivals_from ns 0 s.places))
      (all_map (λ w. w.resource < length q.lists) (λ w. nat_eq w.resource r ≡ false) (λ w below. ne_eqb w.resource r (λ same. (let h = below in omega (arith, same)))) (waits_of (arrivals_from ns 0 s.places))
      (all_waits (λ w. w.resource < length q.lists) (arrivals_from ns 0 s.places) kept.in_range))
