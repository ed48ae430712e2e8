-- What is read of one process.
use Rattle.std.proofs.Common.{◌≡◌, List, ℕ, ◌<◌, true, false, map, is_some, Option, Some, None, slice_index, slice_index_or, length, refl, ap, ◌∙◌}
use Rattle.std.specs.Option.{option_map, option_and_then}
use Rattle.std.proofs.lemmas.List.{get_or-map}
use Rattle.std.proofs.lemmas.Bool.{eq-eqb}
use Rattle.mm_arena.specs.declared.key.Key.{Key}
use Rattle.mm_arena.specs.Slots as slots
use Rattle.mm_arena.specs.Slots.{Slots, Place, never_used, place_at, lookup, live_key}
use Rattle.mm_queue.specs.Queues.{Queues}
use Rattle.mm_rules.specs.TableState.{waited_for}
use Rattle.mm_transactions.specs.declared.transaction.Entry.{Entry}
use Rattle.mm_transactions.specs.Transactions.{told, is_live}
use Rattle.mm_transactions.specs.private.Layout.{Arrival, arrival_of, arrivals_from, waits_of, seen, IsConsistent}
use Rattle.mm_transactions.proofs.Lemmas.Slots.{holds, its_verdict}
use Rattle.mm_transactions.proofs.Lemmas.Arrivals.{its_arrival, arrival_in_slot}
use Rattle.mm_transactions.proofs.Lemmas.Consistent.{waited_by_entry, waited_is}

module _ (ns : List ℕ) (s : Slots Entry) (k : Key) (e : Entry) (found : lookup s k ≡ Some e) where
  place : place_at s k.process ≡ record { generation = k.generation; value = Some e }
  place = (holds s k e found).place

  within : k.process < length s.places
  within = (holds s k e found).within

  lives : (q : Queues) (latest : ℕ) → is_live (seen ns s q latest) k ≡ true
  lives q latest =
      let live : slice_index_or (map (λ p. is_some p.value) s.places) k.process false ≡ true = get_or-map (λ p. is_some p.value) s.places k.process never_used false within ∙ ap (λ p. is_some p.value) place in
      let generation : slice_index (map (λ p. p.generation) s.places) k.process ≡ k.generation = get_or-map (λ p. p.generation) s.places k.process never_used 0 within ∙ ap (λ p. p.generation) place in
      rw (live, generation, eq-eqb k.generation k.generation refl) refl

  -- a live key is told what its entry says
  pub told_of : (q : Queues) (latest : ℕ) → told (seen ns s q latest) k ≡ Some (record { waits_for = e.waits_for; has_verdict = e.has_verdict })
  told_of q latest = rw (lives q latest, waited_by_entry ns s k e found, its_verdict s k e found) refl

  -- it waits for a resource that there is
  pub resource_of : (r : ℕ) (q : Queues) (latest waiting : ℕ) → e.waits_for ≡ Some r → IsConsistent ns s q latest waiting → r < length q.lists
  resource_of r q latest waiting waits kept =
      kept.in_range k.process (record { wait = record { key = k; resource = r }; number = slice_index_or ns k.process 0 }) (its_arrival ns s k e found ∙ ap (λ (o : Option ℕ). arrival_of ns k (record e { waits_for = o })) waits)

-- a process without a live key waits for nothing
pub idle_slot : (ns : List ℕ) (s : Slots Entry) (n : ℕ) → live_key s n ≡ None → waited_for (waits_of (arrivals_from ns 0 s.places)) n ≡ None
idle_slot ns s n none =
    waited_is ns s.places n ∙ ap (option_map (λ (a : Arrival). a.wait.resource)) (arrival_in_slot ns s.places n ∙ ap (option_and_then (arrival_of ns (slots.key_of s n))) (empty (place_at s n).value none))
  where
    empty : (o : Option Entry) → option_map (λ _. slots.key_of s n) o ≡ None → o ≡ None
    empty None e = refl
    empty (Some x) e = (let never : Some (slots.key_of s n) ≡ None = e in cc)
