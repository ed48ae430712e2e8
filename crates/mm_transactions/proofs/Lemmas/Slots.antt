-- Slots: what a live key tells of its slot, and what a write of one slot changes.
use Rattle.std.proofs.Common.{◌&&◌, slice_index, ◌≡◌, ℕ, zero, suc, ◌<◌, true, false, List, [], ◌∷◌, length, map, slice_index_or, slice_set, Option, Some, None, is_some, nat_eq, refl, ap, sym, ◌∙◌, inl, inr}
use Rattle.std.proofs.Math.Seq.{map-set_same}
use Rattle.std.proofs.lemmas.List.{get_or_past, get_or-map}
use Rattle.std.proofs.lemmas.Bool.{and_parts, cases_lt, cases_Bool, eqb-true}
use Rattle.mm_arena.specs.declared.key.Key.{Key}
use Rattle.mm_arena.specs.Slots.{Slots, Place, never_used, place_at, value_under, lookup, IsLive}
use Rattle.mm_queue.specs.Queues.{Queues}
use Rattle.mm_transactions.specs.declared.transaction.Entry.{Entry}
use Rattle.mm_transactions.specs.Transactions.{is_live}
use Rattle.mm_transactions.specs.private.Layout.{verdict_in, seen}

-- the slot of a live key is in range, has its generation, and has the value that is found under it
pub record Holds (s : Slots Entry) (key : Key) (value : Entry) : Type 0 where
  pub within : key.process < length s.places
  pub place : place_at s key.process ≡ record { generation = key.generation; value = Some value }

found_under : (generation : ℕ) (place : Place Entry) (value : Entry) → value_under generation place ≡ Some value → place ≡ record { generation = generation; value = Some value }
found_under generation place value found =
    elim (cases_Bool (nat_eq place.generation generation)) [
      | inl same ↦ λ i. record { generation = eqb-true place.generation generation same i; value = (rw same at found) i }
      | inr other ↦ let never : None ≡ Some value = rw other at found in cc
    ]

pub holds : (s : Slots Entry) (key : Key) (value : Entry) → lookup s key ≡ Some value → Holds s key value
holds s key value found =
    let place = found_under key.generation (place_at s key.process) value found in
    record {
      within = elim (cases_lt key.process (length s.places)) [
        | inl within ↦ within
        | inr past ↦ let never : None ≡ Some value = ap (λ p. p.value) (sym (get_or_past s.places key.process never_used past) ∙ place) in cc
      ];
      place = place;
    }

-- a slot is written: what the new one tells as the old one did, is as it was
pub same_slot : {X : Type 0} (f : Place Entry → X) (s : Slots Entry) (n : ℕ) (p : Place Entry) → f p ≡ f (place_at s n) → map f (slice_set s.places n p) ≡ map f s.places
same_slot f s n p alike = map-set_same f s.places n p never_used alike

-- ---- a live key, by what a contract sees

live_found : (places : List (Place Entry)) (n g : ℕ) → slice_index_or (map (λ p. is_some p.value) places) n false && nat_eq (slice_index (map (λ p. p.generation) places) n) g ≡ true
    → is_some (value_under g (slice_index_or places n never_used)) ≡ true
live_found [] n g live = let never : false ≡ true = live in cc
live_found (p ∷ places) zero g live = let both = and_parts (is_some p.value) (nat_eq p.generation g) live in rw both.1 both.0
live_found (p ∷ places) (suc n) g live = live_found places n g live

its_value : (v : Option Entry) → is_some v ≡ true → (e : Entry) × (v ≡ Some e)
its_value None some = let never : false ≡ true = some in cc
its_value (Some e) some = (e, refl)

-- a live key has a value
pub live_value : (ns : List ℕ) (s : Slots Entry) (q : Queues) (latest : ℕ) (k : Key) → is_live (seen ns s q latest) k ≡ true → (e : Entry) × (lookup s k ≡ Some e)
live_value ns s q latest k live = its_value (lookup s k) (live_found s.places k.process k.generation live)

-- and may be written or removed
pub live_slot : (ns : List ℕ) (s : Slots Entry) (q : Queues) (latest : ℕ) (k : Key) → is_live (seen ns s q latest) k ≡ true → IsLive s k
live_slot ns s q latest k live = rw (live_value ns s q latest k live).1 refl

pub its_verdict : (s : Slots Entry) (k : Key) (e : Entry) → lookup s k ≡ Some e → slice_index_or (map verdict_in s.places) k.process false ≡ e.has_verdict
its_verdict s k e found = let held = holds s k e found in get_or-map verdict_in s.places k.process never_used false held.within ∙ ap verdict_in held.place
