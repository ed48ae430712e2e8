-- A new transaction takes the first free slot.
use Rattle.std.proofs.Common.{length, length-set, ◌≡◌, ℕ, true, false, List, [], ◌∷◌, map, drop, slice_index, slice_set, slice_get, Option, Some, None, is_some, Ok, Err, refl, ap, sym, ◌∙◌, option_and_then}
use Rattle.std.proofs.lemmas.List.{map-set}
use Rattle.std.specs.Option.{ok_or, option_map, option_map_or}
use Rattle.mm_arena.specs.declared.key.Key.{Key}
use Rattle.mm_arena.specs.Slots.{Slots, Place, place_at, next_key, key_of, filled, inserted, AddsKey}
use Rattle.mm_queue.specs.Queues.{Queues}
use Rattle.mm_transactions.specs.declared.transaction.Entry.{Entry}
use Rattle.mm_transactions.specs.Transactions.{begun}
use Rattle.mm_transactions.specs.private.Layout.{arrival_of, arrivals_from, verdict_in, seen, IsConsistent}
use Rattle.mm_transactions.proofs.Lemmas.Slots.{same_slot}
use Rattle.mm_transactions.proofs.Lemmas.Arrivals.{same_arrivals}
use Rattle.mm_transactions.proofs.Lemmas.Consistent.{same_waits}

-- the key is that of the first free process
pub record Taken (s : Slots Entry) (key : Key) : Type 0 where
  pub rest : List ℕ
  pub free : s.free ≡ key.process ∷ rest
  pub key_is : key ≡ key_of s key.process

pub taken : (s : Slots Entry) (value : Entry) (key : Key) → Ok key ≡ ok_or (next_key s) value → Taken s key
taken s value key found = from s.free refl
  where
    from : (free : List ℕ) → s.free ≡ free → Taken s key
    from [] none = let never : Ok key ≡ Err value = found ∙ ap (λ l. ok_or (option_map (key_of s) (slice_get l 0)) value) none in cc
    from (n ∷ rest) is =
        let one : Ok key ≡ ok_or (Some (key_of s n)) value = found ∙ ap (λ l. ok_or (option_map (key_of s) (slice_get l 0)) value) is in
        let key_here : key ≡ key_of s n = cc in
        let process : key.process ≡ n = ap (λ k. k.process) key_here in
        record { rest = rest; free = rw process is; key_is = key_here ∙ ap (key_of s) (sym process) }

-- a transaction that neither waits nor has a verdict
abbrev pub new_entry : Entry
new_entry = record { waits_for = None; has_verdict = false }

no_value : (p : Option Entry) (k : Key) → option_map (λ _. k) p ≡ None → p ≡ None
no_value None k e = refl
no_value (Some t) k e = let never : Some k ≡ None = e in cc

module _ (ns : List ℕ) (s t : Slots Entry) (key : Key) (are : t ≡ inserted s new_entry) (free : Taken s key) (added : AddsKey s t key new_entry) where
  empty : (place_at s key.process).value ≡ None
  empty = no_value (place_at s key.process).value (key_of s key.process) added.was_free

  abbrev filled_place : Place Entry
  filled_place = record { generation = (place_at s key.process).generation; value = Some new_entry }

  places : t.places ≡ slice_set s.places key.process filled_place
  places = ap (λ o. o.places) are ∙ ap (λ l. (filled s new_entry l).places) free.free

  -- the slot had no wait, and has none
  same : arrivals_from ns 0 (slice_set s.places key.process filled_place) ≡ arrivals_from ns 0 s.places
  same = same_arrivals ns s.places key.process filled_place (sym (ap (option_and_then (arrival_of ns (record { process = key.process; generation = (place_at s key.process).generation }))) empty))

  pub begun_seen : (q : Queues) (latest : ℕ) → seen ns t q latest ≡ begun (seen ns s q latest)
  begun_seen q latest =
      let n = key.process in
      let slots : List ℕ → Slots Entry = λ l. filled s new_entry l in
      let verdict : false ≡ verdict_in (place_at s n) = sym (ap (λ v. option_map_or (λ (t : Entry). t.has_verdict) v false) empty) in
      ap (λ (v : Slots Entry). seen ns v q latest) are
      ∙ ap (λ l. seen ns (slots l) q latest) free.free
      ∙ rw (same_slot (λ q. q.generation) s n filled_place refl, map-set (λ q. is_some q.value) s.places n filled_place, same_slot verdict_in s n filled_place verdict, same) refl
      ∙ ap (λ (l : List ℕ). record (seen ns s q latest) { free = drop 1 l; live = slice_set (map (λ p. is_some p.value) s.places) (slice_index l 0) true }) (sym free.free)

  pub begun_consistent : (q : Queues) (latest waiting : ℕ) → IsConsistent ns s q latest waiting → IsConsistent ns t q latest waiting
  begun_consistent q latest waiting =
      same_waits ns s t q latest waiting (ap length places ∙ length-set s.places key.process filled_place) (ap (arrivals_from ns 0) places ∙ same)
