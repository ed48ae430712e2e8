-- Begin keeps the laws: a free process gets a live key, and nothing else changes.
use Rattle.std.proofs.Common.{◌≡◌, ℕ, true, false, drop, nat_eq, slice_index, slice_index_or, slice_set, slice_get, Some, IsTrue, refl, ◌∙◌, length-set}
use Rattle.std.proofs.lemmas.Bool.{and_parts, and_from}
use Rattle.mm_arena.specs.declared.key.Key.{Key}
use Rattle.mm_lists.proofs.Lemmas.Among.{all_at, all_from, all_rest}
use Rattle.mm_lists.proofs.Lemmas.NoRepeat.{first_apart, no_repeat_rest}
use Rattle.mm_lists.proofs.Lemmas.Set.{slice_get-set_other, true_still}
use Rattle.mm_rules.specs.TableState.{TableState, is_live, public_of}
use Rattle.mm_rules.specs.Event.{begun, begin_tests}
use Rattle.mm_rules.specs.Laws.{IsHeld, Laws}
use Rattle.mm_rules.proofs.States.IsSized.{same_lengths}
use Rattle.mm_rules.proofs.States.LabelOrder.{label_le_same}
use Rattle.mm_rules.proofs.States.Outcome.{KeepsLaws, outcome_keeps_laws}

abbrev pub made_live : TableState → ℕ → TableState
made_live s n = record s { free = drop 1 s.free; live = slice_set s.live n true }

-- a live key of s is one where process n has become live
pub live_still : (s : TableState) (n : ℕ) (k : Key) → IsTrue (is_live s k) → IsTrue (is_live (made_live s n) k)
live_still s n k live =
    let parts : (slice_index_or s.live k.process false ≡ true) × (nat_eq (slice_index s.generations k.process) k.generation ≡ true)
    = and_parts (slice_index_or s.live k.process false) (nat_eq (slice_index s.generations k.process) k.generation) live in
    and_from (slice_index_or (slice_set s.live n true) k.process false) (nat_eq (slice_index s.generations k.process) k.generation)
    (true_still s.live n k.process parts.0) parts.1

made_live_keeps : (s : TableState) → Laws s → KeepsLaws s (made_live s (slice_index s.free 0))
made_live_keeps s laws = record {
  laws = record {
    lawful = record {
      well_formed = record {
        config = laws.lawful.well_formed.config;
        sizes = same_lengths s (made_live s (slice_index s.free 0)) laws.lawful.well_formed.sizes refl refl (length-set s.live (slice_index s.free 0) true) refl refl refl refl;
        owners = λ r k owned. live_still s (slice_index s.free 0) k (laws.lawful.well_formed.owners r k owned);
        waits = all_from _ s.waits (λ w among.
            let was : IsTrue (is_live s w.key) × IsHeld s w = all_at (λ w. IsTrue (is_live s w.key) × IsHeld s w) s.waits w laws.lawful.well_formed.waits among in
            (live_still s (slice_index s.free 0) w.key was.0, was.1));
        waits_once = laws.lawful.well_formed.waits_once;
        verdicts = laws.lawful.well_formed.verdicts;
        free = all_from _ (drop 1 s.free) (λ m among.
            let was : slice_get s.live m ≡ Some false = all_at (λ n. slice_get s.live n ≡ Some false) (drop 1 s.free) m (all_rest (λ n. slice_get s.live n ≡ Some false) s.free laws.lawful.well_formed.free) among in
            slice_get-set_other s.live m (slice_index s.free 0) true (first_apart s.free laws.lawful.well_formed.free_once m among) ∙ was);
        free_once = no_repeat_rest s.free laws.lawful.well_formed.free_once;
      };
      private_labels = record { own = laws.lawful.private_labels.own; at_most_public = laws.lawful.private_labels.at_most_public };
      label_bounds = record { made = laws.lawful.label_bounds.made; newest = laws.lawful.label_bounds.newest; limit = laws.lawful.label_bounds.limit };
      propagated = laws.lawful.propagated;
      rising = laws.lawful.rising;
      counted = laws.lawful.counted;
    };
    convicted = laws.convicted;
    topped = laws.topped;
  };
  rise = λ n. label_le_same (public_of s n);
}

pub begin_keeps : (s : TableState) → Laws s → KeepsLaws s (begun s).state
begin_keeps s laws = outcome_keeps_laws s _ (made_live s (slice_index s.free 0)) (begin_tests s) laws (λ passed. made_live_keeps s laws)
