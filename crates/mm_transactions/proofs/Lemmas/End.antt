-- The slot of a transaction that neither waits nor has a verdict is freed, or retired.
use Rattle.std.proofs.Common.{◌≡◌, List, ◌+◌, ℕ, false, ◌∷◌, length, map, slice_index, slice_set, Some, None, is_some, nat_lt, refl, ap, sym, ◌∙◌, inl, inr, length-set}
use Rattle.std.proofs.lemmas.List.{map-set, get_or-map}
use Rattle.std.proofs.lemmas.Bool.{cases_Bool}
use Rattle.mm_arena.specs.declared.key.Key.{Key}
use Rattle.mm_arena.specs.Slots as slots
use Rattle.mm_arena.specs.Slots.{Slots, Place, never_used, place_at, lookup, retired, vacated}
use Rattle.mm_queue.specs.Queues.{Queues}
use Rattle.mm_transactions.specs.declared.transaction.Entry.{Entry}
use Rattle.mm_transactions.specs.Transactions.{freed}
use Rattle.mm_transactions.specs.private.Layout.{arrival_of, arrival_in, arrivals_from, verdict_in, seen, IsConsistent}
use Rattle.mm_transactions.proofs.Lemmas.Slots.{holds, same_slot}
use Rattle.mm_transactions.proofs.Lemmas.Arrivals.{same_arrivals}
use Rattle.mm_transactions.proofs.Lemmas.Consistent.{same_waits}

module _ (ns : List ℕ) (s : Slots Entry) (k : Key) (e : Entry) (found : lookup s k ≡ Some e) (no_wait : e.waits_for ≡ None) where
  abbrev empty : ℕ → Place Entry
  empty generation = record { generation = generation; value = None }

  place : place_at s k.process ≡ record { generation = k.generation; value = Some e }
  place = (holds s k e found).place

  generation_is : slice_index (map (λ p. p.generation) s.places) k.process ≡ k.generation
  generation_is = get_or-map (λ p. p.generation) s.places k.process never_used 0 (holds s k e found).within ∙ ap (λ p. p.generation) place

  -- the slot has no wait, as before
  still : (generation : ℕ) → arrivals_from ns 0 (slice_set s.places k.process (empty generation)) ≡ arrivals_from ns 0 s.places
  still generation =
      same_arrivals ns s.places k.process (empty generation) (sym (ap (arrival_in ns k.process) place ∙ ap (λ w. arrival_of ns k (record e { waits_for = w })) no_wait))

  -- ---- what a contract sees then

  module _ (q : Queues) (latest : ℕ) (no_verdict : e.has_verdict ≡ false) where
    same_verdicts : (generation : ℕ) → map verdict_in (slice_set s.places k.process (empty generation)) ≡ map verdict_in s.places
    same_verdicts generation = same_slot verdict_in s k.process (empty generation) (sym no_verdict ∙ ap verdict_in (sym place))

    freed_is : seen ns (slots.freed s k) q latest
        ≡ record (seen ns s q latest) {
          live = slice_set (map (λ p. is_some p.value) s.places) k.process false;
          generations = slice_set (map (λ p. p.generation) s.places) k.process (k.generation + 1);
          free = k.process ∷ s.free;
        }
    freed_is =
        rw (map-set (λ p. p.generation) s.places k.process (empty (k.generation + 1)), map-set (λ p. is_some p.value) s.places k.process (empty (k.generation + 1)), same_verdicts (k.generation + 1), still (k.generation + 1)) refl

    retired_is : seen ns (retired s k) q latest ≡ record (seen ns s q latest) { live = slice_set (map (λ p. is_some p.value) s.places) k.process false }
    retired_is =
        rw (same_slot (λ p. p.generation) s k.process (empty k.generation) (ap (λ p. p.generation) (sym place)), map-set (λ p. is_some p.value) s.places k.process (empty k.generation), same_verdicts k.generation, still k.generation) refl

    pub slot_freed : seen ns (vacated s k) q latest ≡ freed (seen ns s q latest) k.process
    slot_freed =
        elim (cases_Bool (nat_lt k.generation s.limit)) [
          | inl again ↦ rw (generation_is, again) freed_is
          | inr spent ↦ rw (generation_is, spent) retired_is
        ]

  -- ---- the waits

  pub end_consistent : (t : Slots Entry) → t ≡ vacated s k → (q : Queues) (latest waiting : ℕ) → IsConsistent ns s q latest waiting → IsConsistent ns t q latest waiting
  end_consistent t is q latest waiting = elim (cases_Bool (nat_lt k.generation s.limit)) [
    | inl again ↦
        let now : t ≡ slots.freed s k = is ∙ rw again refl in
        same_waits ns s t q latest waiting (ap (λ (v : Slots Entry). length v.places) now ∙ length-set s.places k.process (empty (k.generation + 1))) (ap (λ (v : Slots Entry). arrivals_from ns 0 v.places) now ∙ still (k.generation + 1))
    | inr spent ↦
        let now : t ≡ retired s k = is ∙ rw spent refl in
        same_waits ns s t q latest waiting (ap (λ (v : Slots Entry). length v.places) now ∙ length-set s.places k.process (empty k.generation)) (ap (λ (v : Slots Entry). arrivals_from ns 0 v.places) now ∙ still k.generation)
  ]
