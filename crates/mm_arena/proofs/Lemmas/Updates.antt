-- What an insert and a remove change, as their keys see it.
use Rattle.std.proofs.Common.{◌≡◌, ◌≢◌, ℕ, ◌+◌, ◌<◌, ◌≤◌, true, List, ◌∷◌, Option, Some, None, is_some, cond, count_by, length, set, refl, sym, ap, ◌∙◌, inl, inr, arith}
use Rattle.std.proofs.lemmas.Bool.{cases_eq}
use Rattle.std.proofs.lemmas.Bool.Decides.{nat_tests}
use Rattle.std.proofs.lemmas.List.{get_or-set_same, get_or-set_other, get_or_past, length-set}
use Rattle.std.proofs.lemmas.List.Sums.{sum_by-set}
use Rattle.mm_arena.specs.declared.key.Key.{Key}
use Rattle.mm_arena.specs.Slots.{Slots, Place, never_used, place_at, value_under, IsLive, live_count, filled, inserted, freed, retired, Updates, AddsKey, DropsKey}

module _ {T : Type 0} where
  pub value_under-same : (generation : ℕ) (value : Option T) → value_under generation (record { generation = generation; value = value }) ≡ value
  value_under-same generation value = grind (arith, nat_tests)

  -- a slot shows its value to its own generation alone
  pub value_under-other : (generation : ℕ) (place : Place T) → generation ≢ place.generation → value_under generation place ≡ None
  value_under-other generation place other = grind (arith, nat_tests)

  pub value_under-empty : (generation : ℕ) (place : Place T) → place.value ≡ None → value_under generation place ≡ None
  value_under-empty generation place empty = grind (arith, nat_tests)

  -- a value is found only under the slot's own generation
  pub generation_at_value : (generation : ℕ) (place : Place T) → is_some (value_under generation place) ≡ true → place.generation ≡ generation
  generation_at_value generation place found = grind (arith, nat_tests)

  -- a live key has a slot
  pub IsLive-within : (s : Slots T) (key : Key) → IsLive s key → key.process < length s.places
  IsLive-within s key live = grind (arith, get_or_past)

  -- the slot of a live key
  pub record Holds (s : Slots T) (key : Key) (value : T) : Type 0 where
    pub within : key.process < length s.places
    pub place : place_at s key.process ≡ record { generation = key.generation; value = Some value }

  -- a write of a slot whose key was the only one that could be live there
  Updates-set : (old new : Slots T) (key : Key) (place : Place T) (value : Option T) → key.process < length old.places → new.places ≡ set old.places key.process place → value_under key.generation place ≡ value → ((generation : ℕ) → generation ≢ key.generation → value_under generation place ≡ value_under generation (place_at old key.process)) → Updates old new key value
  Updates-set old new key place value within written now others =
      record {
        changed = rw written (rw (get_or-set_same old.places key.process place never_used within) now);
        others = λ other differs. rw written
            (elim (cases_eq other.process key.process) [
              | inl same ↦
                  let apart : other.generation ≢ key.generation = λ e. differs (λ i. record { process = same i; generation = e i }) in
                  rw (same, get_or-set_same old.places key.process place never_used within) (others other.generation apart)
              | inr elsewhere ↦ rw (get_or-set_other old.places key.process other.process place never_used elsewhere) refl
            ]);
      }

  -- the count of live keys after a write of one slot
  live_count-set : (s : Slots T) (process : ℕ) (place : Place T) → process < length s.places → count_by (λ p. is_some p.value) (set s.places process place) + cond (is_some (place_at s process).value) 1 0 ≡ live_count s + cond (is_some place.value) 1 0
  live_count-set s process place within =
      sum_by-set (λ p. cond (is_some p.value) 1 0) s.places process place never_used within

  -- an insert into the first free process
  module _ (s : Slots T) (process generation : ℕ) (rest : List ℕ) (value : T) (free : s.free ≡ process ∷ rest) where
    pub inserted-first : place_at s process ≡ record { generation = generation; value = None } → inserted s value ≡ record { places = set s.places process (record { generation = generation; value = Some value }); free = rest; limit = s.limit }
    inserted-first place =
        ap (filled s value) free
        ∙ ap (λ p. record { places = set s.places process (record { generation = p.generation; value = Some value }); free = rest; limit = s.limit }) place

    pub AddsKey-first : process < length s.places → place_at s process ≡ record { generation = generation; value = None } → 1 ≤ generation → generation ≤ s.limit → AddsKey s (inserted s value) (record { process = process; generation = generation }) value
    AddsKey-first within place above limited =
        let new : Place T = record { generation = generation; value = Some value } in
        let was_free : (place_at s process).value ≡ None = ap (λ p. p.value) place in
        let written : (inserted s value).places ≡ set s.places process new = ap (λ t. t.places) (inserted-first place) in
        record {
          within = within;
          was_free = rw was_free refl;
          above_zero = above;
          in_limit = limited;
          updates = Updates-set s (inserted s value) (record { process = process; generation = generation }) new (Some value) within written
              (value_under-same generation (Some value))
              (λ other apart. value_under-other other new apart ∙ sym (value_under-empty other _ was_free));
          count = rw written (let counted = rw was_free at (live_count-set s process new within) in omega (arith, counted));
          capacity = ap length written ∙ length-set s.places process new;
        }

  -- a write of a live key's slot that leaves no value there
  DropsKey-set : (s new : Slots T) (key : Key) (value : T) (generation : ℕ) → new.places ≡ set s.places key.process (record { generation = generation; value = None }) → Holds s key value → DropsKey s new key
  DropsKey-set s new key value generation written holds =
      let place : Place T = record { generation = generation; value = None } in
      record {
        updates = Updates-set s new key place None holds.within written
            (value_under-empty key.generation place refl)
            (λ other apart. value_under-empty other place refl ∙ sym (rw holds.place (value_under-other other _ apart)));
        count = rw written (let counted = rw holds.place at (live_count-set s key.process place holds.within) in omega (arith, counted));
        capacity = ap length written ∙ length-set s.places key.process place;
      }

  pub DropsKey-freed : (s : Slots T) (key : Key) (value : T) → Holds s key value → DropsKey s (freed s key) key
  DropsKey-freed s key value = DropsKey-set s (freed s key) key value _ refl

  pub DropsKey-retired : (s : Slots T) (key : Key) (value : T) → Holds s key value → DropsKey s (retired s key) key
  DropsKey-retired s key value = DropsKey-set s (retired s key) key value _ refl
