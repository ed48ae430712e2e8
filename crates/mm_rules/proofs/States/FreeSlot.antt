-- The slot of a process that owns nothing and waits for nothing is freed or retired, and the laws stay.
use Rattle.std.proofs.Common.{◌≡◌, ◌≢◌, ◌+◌, ℕ, ◌<◌, List, ◌∷◌, length, nat_eq, nat_lt, slice_index, slice_index_or, slice_set, slice_get, true, false, Some, None, IsTrue, inl, inr, refl, sym, ap, ◌∙◌, length-set, get_or-set_other}
use Rattle.std.specs.List.{AllByRecursion}
use Rattle.std.proofs.lemmas.Bool.{cases_Bool, and_parts, and_from}
use Rattle.std.proofs.lemmas.Option.{slice_get-get_or}
use Rattle.mm_arena.specs.declared.key.Key.{Key}
use Rattle.mm_lists.specs.Members.{NoRepeat, Among}
use Rattle.mm_lists.proofs.Lemmas.Among.{all_at, all_from}
use Rattle.mm_lists.proofs.Lemmas.Set.{slice_get-set_other, slice_get-set_same, true_within}
use Rattle.mm_rules.specs.TableState.{TableState, is_live, owner_of, wait_of, public_of}
use Rattle.mm_rules.specs.Change.{free_slot}
use Rattle.mm_rules.specs.Laws.{IsHeld, Laws}
use Rattle.mm_rules.proofs.States.IsSized.{same_lengths}
use Rattle.mm_rules.proofs.States.LabelOrder.{label_le_same}
use Rattle.mm_rules.proofs.States.Lookups.{waits_of_others}
use Rattle.mm_rules.proofs.States.Outcome.{KeepsLaws}
use Rattle.mm_rules.proofs.States.ClosesNone.{ClosesNone, same_holders_close_none}

-- the process n is live no more, and generations and free processes are these
abbrev pub freed : TableState → ℕ → List ℕ → List ℕ → TableState
freed s n generations free = record s { live = slice_set s.live n false; generations = generations; free = free }

-- n owns nothing and waits for nothing
pub record IsVacant (s : TableState) (n : ℕ) : Type 0 where
  pub laws : Laws s
  pub live : slice_index_or s.live n false ≡ true
  pub active : wait_of s n ≡ None
  pub owns_none : (r : ℕ) (k : Key) → owner_of s r ≡ Some k → k.process ≢ n

module _ (s : TableState) (n : ℕ) (vacant : IsVacant s n) where
  within : n < length s.live
  within = true_within s.live n vacant.live

  -- the free processes are others
  free_apart : (m : ℕ) → Among m s.free → m ≢ n
  free_apart m among e =
      let was : slice_get s.live m ≡ Some false = all_at (λ i. slice_get s.live i ≡ Some false) s.free m vacant.laws.lawful.well_formed.free among in
      let here : slice_get s.live n ≡ Some true = slice_get-get_or s.live n false within ∙ ap Some vacant.live in
      let never : Some false ≡ Some true = sym was ∙ ap (slice_get s.live) e ∙ here in
      absurd (cc)

  free_still : (m : ℕ) → Among m s.free → slice_get (slice_set s.live n false) m ≡ Some false
  free_still m among =
      slice_get-set_other s.live m n false (free_apart m among) ∙ all_at (λ i. slice_get s.live i ≡ Some false) s.free m vacant.laws.lawful.well_formed.free among

  module _ (generations : List ℕ) (free : List ℕ) (else_same : (m : ℕ) → m ≢ n → slice_index generations m ≡ slice_index s.generations m) where
    live_still : (k : Key) → k.process ≢ n → IsTrue (is_live s k) → IsTrue (is_live (freed s n generations free) k)
    live_still k apart live =
        let parts : (slice_index_or s.live k.process false ≡ true) × (nat_eq (slice_index s.generations k.process) k.generation ≡ true)
        = and_parts (slice_index_or s.live k.process false) (nat_eq (slice_index s.generations k.process) k.generation) live in
        and_from (slice_index_or (slice_set s.live n false) k.process false) (nat_eq (slice_index generations k.process) k.generation)
        (get_or-set_other s.live n k.process false false apart ∙ parts.0) (ap (λ g. nat_eq g k.generation) (else_same k.process apart) ∙ parts.1)

    freed_keeps : length generations ≡ length s.generations → AllByRecursion (λ m. slice_get (slice_set s.live n false) m ≡ Some false) free → NoRepeat free
        → KeepsLaws s (freed s n generations free)
    freed_keeps sized free_not_live once = record {
      laws = record {
        lawful = record {
          well_formed = record {
            config = vacant.laws.lawful.well_formed.config;
            sizes = same_lengths s _ vacant.laws.lawful.well_formed.sizes refl sized (length-set s.live n false) refl refl refl refl;
            owners = λ r k owned. live_still k (vacant.owns_none r k owned) (vacant.laws.lawful.well_formed.owners r k owned);
            waits = all_from _ s.waits (λ w among.
                let was : IsTrue (is_live s w.key) × IsHeld s w = all_at (λ w. IsTrue (is_live s w.key) × IsHeld s w) s.waits w vacant.laws.lawful.well_formed.waits among in
                (live_still w.key (waits_of_others s n vacant.active w among) was.0, was.1));
            waits_once = vacant.laws.lawful.well_formed.waits_once;
            verdicts = vacant.laws.lawful.well_formed.verdicts;
            free = free_not_live;
            free_once = once;
          };
          private_labels = record { own = vacant.laws.lawful.private_labels.own; at_most_public = vacant.laws.lawful.private_labels.at_most_public };
          label_bounds = record { made = vacant.laws.lawful.label_bounds.made; newest = vacant.laws.lawful.label_bounds.newest; limit = vacant.laws.lawful.label_bounds.limit };
          propagated = vacant.laws.lawful.propagated;
          rising = vacant.laws.lawful.rising;
          counted = vacant.laws.lawful.counted;
        };
        convicted = vacant.laws.convicted;
        topped = vacant.laws.topped;
      };
      rise = λ k. label_le_same (public_of s k);
    }

  retired_keeps : KeepsLaws s (freed s n s.generations s.free)
  retired_keeps = freed_keeps s.generations s.free (λ m apart. refl) refl
      (all_from (λ m. slice_get (slice_set s.live n false) m ≡ Some false) s.free free_still) vacant.laws.lawful.well_formed.free_once

  abbrev next_generations : List ℕ
  next_generations = slice_set s.generations n (slice_index s.generations n + 1)

  free_again_keeps : KeepsLaws s (freed s n next_generations (n ∷ s.free))
  free_again_keeps = freed_keeps next_generations (n ∷ s.free) (λ m apart. get_or-set_other s.generations n m (slice_index s.generations n + 1) 0 apart)
      (length-set s.generations n (slice_index s.generations n + 1)) (
        slice_get-set_same s.live n false within,
        all_from (λ m. slice_get (slice_set s.live n false) m ≡ Some false) s.free free_still,
      )
      (λ again. free_apart n again refl, vacant.laws.lawful.well_formed.free_once)

  pub free_slot_keeps : KeepsLaws s (free_slot s n)
  free_slot_keeps = elim (cases_Bool (nat_lt (slice_index s.generations n) s.config.generation_limit)) [
    | inl again ↦ rw again free_again_keeps
    | inr retired ↦ rw retired retired_keeps
  ]

pub free_slot_closes_none : (s : TableState) (n : ℕ) → ClosesNone s (free_slot s n)
free_slot_closes_none s n = elim (cases_Bool (nat_lt (slice_index s.generations n) s.config.generation_limit)) [
  | inl again ↦ rw again (same_holders_close_none s (freed s n (slice_set s.generations n (slice_index s.generations n + 1)) (n ∷ s.free)) (λ m. refl) (λ v was. was))
  | inr retired ↦ rw retired (same_holders_close_none s (freed s n s.generations s.free) (λ m. refl) (λ v was. was))
]
