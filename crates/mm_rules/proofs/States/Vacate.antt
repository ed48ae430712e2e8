-- Finish keeps the laws: the process hands over all that it owns, one resource after the other, and its slot is freed.
use Rattle.std.proofs.Common.{◌≡◌, ◌≢◌, ℕ, ◌<◌, List, [], ◌∷◌, length, fold, nat_eq, slice_index, slice_index_or, true, false, Some, None, IsTrue, inl, inr, refl, sym, ◌∙◌, arith}
use Rattle.std.specs.List.{range_with_len}
use Rattle.std.proofs.lemmas.Bool.{cases_eq, eq-eqb, and_parts, not-false}
use Rattle.mm_arena.specs.declared.key.Key.{Key}
use Rattle.mm_lists.specs.Members.{NoRepeat, Among}
use Rattle.mm_lists.proofs.Lemmas.Range.{among_range, no_repeat_filter_range}
use Rattle.mm_lists.proofs.Lemmas.Filter.{filter_gives, filter_keeps}
use Rattle.mm_lists.proofs.Lemmas.Among.{list_all_at}
use Rattle.mm_rules.specs.TableState.{TableState, is_live, owner_of, owns, wait_of, resources_of}
use Rattle.mm_rules.specs.Change.{hand_over, hand_over_fits, vacate, vacate_fits}
use Rattle.mm_rules.specs.Event.{finished, finish_tests}
use Rattle.mm_rules.specs.Laws.{Laws}
use Rattle.mm_rules.proofs.States.Outcome.{KeepsLaws, keeps_same, keeps_then, outcome_keeps_laws}
use Rattle.mm_rules.proofs.States.Lookups.{none_of_is_some}
use Rattle.mm_rules.proofs.States.ClosesNone.{ClosesNone, closes_none_then, same_holders_close_none}
use Rattle.mm_rules.proofs.States.HandOverLaws.{MayHandOver, owner_within}
use Rattle.mm_rules.proofs.States.HandOver.{HandedOver, hand_over_keeps, others_fit}
use Rattle.mm_rules.proofs.States.Release.{owns_gives, may_hand_over}
use Rattle.mm_rules.proofs.States.FreeSlot.{free_slot_keeps, free_slot_closes_none}

-- n, which waits for nothing, owns these resources and no other, and may hand each of them over
pub record Vacating (old s : TableState) (n : ℕ) (rs : List ℕ) : Type 0 where
  pub keeps : KeepsLaws old s
  pub closes : ClosesNone old s
  pub live : s.live ≡ old.live
  pub generations : s.generations ≡ old.generations
  pub active : wait_of s n ≡ None
  pub owned : (r : ℕ) → Among r rs → (k : Key) × (owner_of s r ≡ Some k) × (k.process ≡ n)
  pub fits : (r : ℕ) → Among r rs → IsTrue (hand_over_fits s r)
  pub only : (r : ℕ) (k : Key) → owner_of s r ≡ Some k → k.process ≡ n → Among r rs

module _ (old s : TableState) (n r : ℕ) (rs : List ℕ) (once : NoRepeat (r ∷ rs)) (now : Vacating old s n (r ∷ rs)) where
  rest_apart : (q : ℕ) → Among q rs → q ≢ r
  rest_apart q among e = once.0 (rw e at among)

  vacating_after_hand_over : (o : ℕ) → o ≡ n → HandedOver s r o (hand_over s r) → Vacating old (hand_over s r) n rs
  vacating_after_hand_over o e over = record {
    keeps = keeps_then old s (hand_over s r) now.keeps over.keeps;
    closes = closes_none_then old s (hand_over s r) now.closes over.closes now.keeps over.keeps;
    live = over.live ∙ now.live;
    generations = over.generations ∙ now.generations;
    active = rw e at (over.still (rw e now.active));
    owned = λ q among. ((now.owned q (inr among)).0, over.owners q (rest_apart q among) ∙ (now.owned q (inr among)).1, (now.owned q (inr among)).2);
    fits = λ q among. others_fit s (hand_over s r) r o q over (rest_apart q among) (now.fits q (inr among));
    only = λ q k owned mine. elim (cases_eq q r) [
      | inl same ↦ absurd (over.gone k (rw same at owned) (mine ∙ sym e))
      | inr apart ↦ elim (now.only q k (sym (over.owners q apart) ∙ owned) mine) [ inl same ↦ absurd (apart same) | inr later ↦ later ]
    ];
  }

  pub vacating_next : Vacating old (hand_over s r) n rs
  vacating_next =
      let owner : (k : Key) × (owner_of s r ≡ Some k) × (k.process ≡ n) = now.owned r (inl refl) in
      let may : MayHandOver s r owner.0 = may_hand_over s n r owner.0 now.keeps.laws now.active owner.1 owner.2 in
      vacating_after_hand_over owner.0.process owner.2 (hand_over_keeps s r owner.0 may (now.fits r (inl refl)))

vacating_all : (old s : TableState) (n : ℕ) (rs : List ℕ) → NoRepeat rs → Vacating old s n rs → Vacating old (fold hand_over s rs) n []
vacating_all old s n [] once now = now
vacating_all old s n (r ∷ rs) once now = vacating_all old (hand_over s r) n rs once.1 (vacating_next old s n r rs once now)

pub vacating_begins : (s : TableState) (n : ℕ) → Laws s → wait_of s n ≡ None → IsTrue (vacate_fits s n) → Vacating s s n (resources_of s n)
vacating_begins s n laws active fits = record {
  keeps = keeps_same s laws;
  closes = same_holders_close_none s s (λ n. refl) (λ v was. was);
  live = refl;
  generations = refl;
  active = active;
  owned = λ r among. owns_gives s n r (filter_gives (owns s n) (range_with_len 0 s.config.resources) r among).1;
  fits = λ r among. list_all_at (hand_over_fits s) (resources_of s n) r fits among;
  only = λ r k owned mine.
      let within : r < length s.owners = owner_within s r k (may_hand_over s n r k laws active owned mine) in
      let in_all : Among r (range_with_len 0 s.config.resources) = among_range 0 s.config.resources r (omega arith) (omega (arith, laws.lawful.well_formed.sizes.owners)) in
      let mine_too : IsTrue (owns s n r) = rw owned (eq-eqb k.process n mine) in
      filter_keeps (owns s n) (range_with_len 0 s.config.resources) r in_all mine_too;
}

-- after all hand-overs
pub vacating_ends : (s : TableState) (n : ℕ) → Laws s → wait_of s n ≡ None → IsTrue (vacate_fits s n) → Vacating s (fold hand_over s (resources_of s n)) n []
vacating_ends s n laws active fits = vacating_all s s n (resources_of s n) (no_repeat_filter_range (owns s n) 0 s.config.resources) (vacating_begins s n laws active fits)

module _ (s : TableState) (n : ℕ) (laws : Laws s) (live : slice_index_or s.live n false ≡ true) (active : wait_of s n ≡ None) (fits : IsTrue (vacate_fits s n)) where
  all_handed : Vacating s (fold hand_over s (resources_of s n)) n []
  all_handed = vacating_ends s n laws active fits

  slot_keeps : KeepsLaws (fold hand_over s (resources_of s n)) (vacate s n)
  slot_keeps = free_slot_keeps (fold hand_over s (resources_of s n)) n record {
    laws = all_handed.keeps.laws;
    live = rw all_handed.live live;
    active = all_handed.active;
    owns_none = λ r k owned mine. all_handed.only r k owned mine;
  }

  pub vacate_keeps : KeepsLaws s (vacate s n)
  vacate_keeps = keeps_then s (fold hand_over s (resources_of s n)) (vacate s n) all_handed.keeps slot_keeps

  pub vacate_closes_none : ClosesNone s (vacate s n)
  vacate_closes_none =
      let t = fold hand_over s (resources_of s n) in
      closes_none_then s t (vacate s n) all_handed.closes (free_slot_closes_none t n) all_handed.keeps slot_keeps

pub live_process : (s : TableState) (k : Key) → IsTrue (is_live s k) → slice_index_or s.live k.process false ≡ true
live_process s k live = (and_parts (slice_index_or s.live k.process false) (nat_eq (slice_index s.generations k.process) k.generation) live).0

pub finish_keeps : (s : TableState) (k : Key) → Laws s → KeepsLaws s (finished s k).state
finish_keeps s k laws = outcome_keeps_laws s tt (vacate s k.process) (finish_tests s k) laws (λ passed.
    vacate_keeps s k.process laws (live_process s k (not-false (is_live s k) passed.1.0)) (none_of_is_some (wait_of s k.process) passed.1.1.0)
    (not-false (vacate_fits s k.process) passed.1.1.1.0))
