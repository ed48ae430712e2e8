-- All that a process owns is handed over, in whatever order its resources come.
use Rattle.std.proofs.Common.{◌≡◌, ◌≢◌, ℕ, ◌<◌, ◌≤◌, Bool, true, false, List, [], ◌∷◌, length, filter, fold, is_some, IsTrue, IsFalse, Some, None, inl, inr, refl, sym, ap, ◌∙◌, arith, subst}
use Rattle.std.specs.List.{range_with_len}
use Rattle.std.proofs.lemmas.Bool.{cases_eq, cases_Bool, eq-eqb}
use Rattle.mm_arena.specs.declared.key.Key.{Key}
use Rattle.mm_lists.specs.Members.{NoRepeat, Among}
use Rattle.mm_rules.specs.TableState.{TableState, is_live, has_verdict, owner_of, owns, wait_of, resources_of}
use Rattle.mm_rules.specs.Change.{hand_over, vacate_fits}
use Rattle.mm_rules.specs.Laws.{Laws}
use Rattle.mm_lists.proofs.Lemmas.Filter.{filter_gives, filter_keeps}
use Rattle.mm_lists.proofs.Lemmas.Range.{no_repeat_filter_range}
use Rattle.mm_rules.proofs.States.HandOverLaws.{MayHandOver}
use Rattle.mm_rules.proofs.States.HandOver.{HandedOver, hand_over_keeps}
use Rattle.mm_rules.proofs.States.Release.{owns_gives, may_hand_over}
use Rattle.mm_rules.proofs.States.Vacate.{Vacating, vacating_begins, vacating_ends, vacating_next}
use Rattle.mm_rules.proofs.States.HandOverOrder.{any_order}

-- fewer pass a test that only some pass that passed another
filter_less : (p q : ℕ → Bool) (xs : List ℕ) → ((x : ℕ) → q x ≡ true → p x ≡ true) → length (filter q xs) ≤ length (filter p xs)
filter_less p q [] each = omega arith
filter_less p q (x ∷ xs) each =
    let rest = filter_less p q xs each in
    elim (cases_Bool (q x)) [
      | inl yes_q ↦ let yes_p = each x yes_q in rw (yes_q, yes_p) (omega arith)
      | inr no_q ↦ elim (cases_Bool (p x)) [ inl yes_p ↦ rw (no_q, yes_p) (omega arith) | inr no_p ↦ rw (no_q, no_p) rest ]
    ]

filter_fewer : (p q : ℕ → Bool) (xs : List ℕ) (r : ℕ) → ((x : ℕ) → q x ≡ true → p x ≡ true) → Among r xs → p r ≡ true → q r ≡ false → length (filter q xs) < length (filter p xs)
filter_fewer p q [] r each among yes_p no_q = elim among [ ]
filter_fewer p q (x ∷ xs) r each (inl here) yes_p no_q =
    let rest = filter_less p q xs each in
    let yes_here : p x ≡ true = ap p (sym here) ∙ yes_p in
    let no_here : q x ≡ false = ap q (sym here) ∙ no_q in
    rw (no_here, yes_here) (omega arith)
filter_fewer p q (x ∷ xs) r each (inr later) yes_p no_q =
    let rest = filter_fewer p q xs r each later yes_p no_q in
    elim (cases_Bool (q x)) [
      | inl yes_x ↦ let yes_px = each x yes_x in rw (yes_x, yes_px) (omega arith)
      | inr no_x ↦ elim (cases_Bool (p x)) [ inl yes_px ↦ rw (no_x, yes_px) (omega arith) | inr no_px ↦ rw (no_x, no_px) rest ]
    ]

-- s came from old by hand-overs of what n owned: the rest of them leads to the same state
pub record IsUnderWay (old s : TableState) (n : ℕ) : Type 0 where
  pub config : s.config ≡ old.config
  pub now : Vacating old s n (resources_of s n)
  pub rest : fold hand_over s (resources_of s n) ≡ fold hand_over old (resources_of old n)

pub starts : (s : TableState) (n : ℕ) → Laws s → wait_of s n ≡ None → IsTrue (vacate_fits s n) → IsUnderWay s s n
starts s n laws active fits = record { config = refl; now = vacating_begins s n laws active fits; rest = refl }

module _ (old s : TableState) (n r : ℕ) (way : IsUnderWay old s n) (among : Among r (resources_of s n)) where
  owner : (k : Key) × (owner_of s r ≡ Some k) × (k.process ≡ n)
  owner = way.now.owned r among

  over : HandedOver s r owner.0.process (hand_over s r)
  over =
      let may : MayHandOver s r owner.0 = may_hand_over s n r owner.0 way.now.keeps.laws way.now.active owner.1 owner.2 in
      hand_over_keeps s r owner.0 may (way.now.fits r among)

  -- what n owns then, it owned before, and it is not r
  owned_before : (q : ℕ) → IsTrue (owns (hand_over s r) n q) → IsTrue (owns s n q) × (q ≢ r)
  owned_before q own =
      let its : (k : Key) × (owner_of (hand_over s r) q ≡ Some k) × (k.process ≡ n) = owns_gives (hand_over s r) n q own in
      let apart : q ≢ r = λ e. over.gone its.0 (ap (owner_of (hand_over s r)) (sym e) ∙ its.1) (its.2 ∙ sym owner.2) in
      let was : owner_of s q ≡ Some its.0 = sym (over.owners q apart) ∙ its.1 in
      (rw was (eq-eqb its.0.process n its.2), apart)

  in_range_still : (q : ℕ) → Among q (range_with_len 0 (hand_over s r).config.resources) → Among q (range_with_len 0 s.config.resources)
  in_range_still q found = rw over.config at found

  still_in : (q : ℕ) → Among q (resources_of (hand_over s r) n) → Among q (resources_of s n) × (q ≢ r)
  still_in q found =
      let parts = filter_gives (owns (hand_over s r) n) (range_with_len 0 (hand_over s r).config.resources) q found in
      let before = owned_before q parts.1 in
      (filter_keeps (owns s n) (range_with_len 0 s.config.resources) q (in_range_still q parts.0) before.0, before.1)

  pub stays_in : (q : ℕ) → Among q (resources_of s n) → q ≢ r → Among q (resources_of (hand_over s r) n)
  stays_in q found apart =
      let its : (k : Key) × (owner_of s q ≡ Some k) × (k.process ≡ n) = way.now.owned q found in
      let now : owner_of (hand_over s r) q ≡ Some its.0 = over.owners q apart ∙ its.1 in
      let range : Among q (range_with_len 0 (hand_over s r).config.resources) = rw over.config (filter_gives (owns s n) (range_with_len 0 s.config.resources) q found).0 in
      filter_keeps (owns (hand_over s r) n) (range_with_len 0 (hand_over s r).config.resources) q range (rw now (eq-eqb its.0.process n its.2))

  abbrev left : List ℕ
  left = resources_of (hand_over s r) n

  once : NoRepeat (r ∷ left)
  once = ((λ again. (still_in r again).1 refl), no_repeat_filter_range (owns (hand_over s r) n) 0 (hand_over s r).config.resources)

  before : (q : ℕ) → Among q (r ∷ left) → Among q (resources_of s n)
  before q (inl here) = subst (λ x. Among x (resources_of s n)) (sym here) among
  before q (inr later) = (still_in q later).0

  after : (q : ℕ) → Among q (resources_of s n) → Among q (r ∷ left)
  after q found = elim (cases_eq q r) [ inl here ↦ inl here | inr apart ↦ inr (stays_in q found apart) ]

  with_r_first : Vacating old s n (r ∷ left)
  with_r_first = record {
    keeps = way.now.keeps;
    closes = way.now.closes;
    live = way.now.live;
    generations = way.now.generations;
    active = way.now.active;
    owned = λ q found. way.now.owned q (before q found);
    fits = λ q found. way.now.fits q (before q found);
    only = λ q k owned mine. after q (way.now.only q k owned mine);
  }

  pub handed_one : IsUnderWay old (hand_over s r) n
  handed_one = record {
    config = over.config ∙ way.config;
    now = vacating_next old s n r left once with_r_first;
    rest = any_order s (r ∷ left) (resources_of s n) way.now.keeps.laws.lawful.well_formed.waits_once once (no_repeat_filter_range (owns s n) 0 s.config.resources)
        (λ q found. before q found)
        (λ q found. after q found)
        ∙ way.rest;
  }

  pub fewer_left : length left < length (resources_of s n)
  fewer_left =
      let gone : owns (hand_over s r) n r ≡ false = elim (cases_Bool (owns (hand_over s r) n r)) [ inl own ↦ absurd ((owned_before r own).1 refl) | inr none ↦ none ] in
      let mine = filter_gives (owns s n) (range_with_len 0 s.config.resources) r among in
      rw over.config (filter_fewer (owns s n) (owns (hand_over s r) n) (range_with_len 0 s.config.resources) r (λ q own. (owned_before q own).0) mine.0 mine.1 gone)

-- ---- once all is handed over

-- its key is live still, and it has no verdict
module _ (s : TableState) (k : Key) (laws : Laws s) (active : wait_of s k.process ≡ None) (fits : IsTrue (vacate_fits s k.process)) where
  done : Vacating s (fold hand_over s (resources_of s k.process)) k.process []
  done = vacating_ends s k.process laws active fits

  pub live_still : IsTrue (is_live s k) → IsTrue (is_live (fold hand_over s (resources_of s k.process)) k)
  live_still live = rw (done.live, done.generations) live

  pub active_still : wait_of (fold hand_over s (resources_of s k.process)) k.process ≡ None
  active_still = done.active

  pub no_verdict_then : IsFalse (has_verdict (fold hand_over s (resources_of s k.process)) k.process)
  no_verdict_then = elim (cases_Bool (has_verdict (fold hand_over s (resources_of s k.process)) k.process)) [
    | inl verdict ↦ let never : false ≡ true = sym (ap is_some done.active) ∙ done.keeps.laws.lawful.well_formed.verdicts k.process verdict in cc
    | inr none ↦ none
  ]
