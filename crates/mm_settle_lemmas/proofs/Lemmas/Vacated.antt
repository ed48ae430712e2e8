-- Whom a transaction's end changes: those that wait for what it owns.
use Rattle.std.proofs.Common.{◌≡◌, ◌≢◌, ◌⊎◌, ◌<◌, ℕ, Bool, true, false, List, [], ◌∷◌, length, slice_set, slice_index_or, Option, Some, None, option_map, option_and_then, nat_lt, slice_index, if◌then◌else◌, ◌+◌, subst, inl, inr, refl, sym, ap, ◌∙◌, get_or-set_same, get_or-set_other}
use Rattle.std.proofs.lemmas.Bool.{cases_eq}
use Rattle.mm_arena.specs.declared.key.Key.{Key}
use Rattle.mm_lists.specs.Members.{Among}
use Rattle.mm_rules.specs.TableState.{TableState, Wait, holder_of, owner_of, wait_of, waited_for, waiters_of}
use Rattle.mm_rules.specs.Change.{activate, block, give_to, hand_over, free_slot, take_back}
use Rattle.mm_rules.specs.Stages.{blocked_on}
use Rattle.mm_rules.specs.Laws.{Laws}
use Rattle.mm_rules.proofs.States.Lookups.{no_holder}
use Rattle.mm_rules.proofs.States.Activate.{waits_no_longer, waits_else}
use Rattle.mm_settle_lemmas.specs.Touched.{IsUnchanged, Touches}
use Rattle.mm_settle_lemmas.specs.Steps.Added.{Adds, AddsAll}
use Rattle.mm_settle_lemmas.specs.Steps.Vacating.{HeldAreUnchanged, IsVacating}
use Rattle.mm_settle_lemmas.proofs.Lemmas.Touched.{unchanged, unchanged_then, touches_then, touches_nobody, touches_hand_over, hand_over_else, blocks_waits, waits_for, touches_one, activate_else}
use Rattle.mm_settle_lemmas.proofs.Lemmas.Waiters.{in_queue}

-- who was as before until now and is not as it was, or the other way round, is changed by both together
unchanged_back : (s t u : TableState) (n : ℕ) → IsUnchanged s t n → IsUnchanged s u n → IsUnchanged t u n
unchanged_back s t u n first whole = record {
  private = whole.private ∙ sym first.private;
  public = whole.public ∙ sym first.public;
  wait = whole.wait ∙ sym first.wait;
  holder = whole.holder ∙ sym first.holder;
  verdict = whole.verdict ∙ sym first.verdict;
}

unchanged_front : (s t u : TableState) (n : ℕ) → IsUnchanged t u n → IsUnchanged s u n → IsUnchanged s t n
unchanged_front s t u n second whole = record {
  private = sym second.private ∙ whole.private;
  public = sym second.public ∙ whole.public;
  wait = sym second.wait ∙ whole.wait;
  holder = sym second.holder ∙ whole.holder;
  verdict = sym second.verdict ∙ whole.verdict;
}

-- one event after the other, where nobody is changed by both
pub touches_apart : (s t u : TableState) (a b c : List Bool) → Touches s t a b → Touches t u b c → ((n : ℕ) → IsUnchanged s t n ⊎ IsUnchanged t u n) → Touches s u a c
touches_apart s t u a b c first second either =
    touches_then s t u a b c first second
    (λ n changed same. elim (either n) [ inl before ↦ changed before | inr after ↦ changed (unchanged_front s t u n after same) ])
    (λ n changed same. elim (either n) [ inl before ↦ changed (unchanged_back s t u n before same) | inr after ↦ changed after ])

-- either it waits for r, or it does not
pub waits_or : (o : Option ℕ) (r : ℕ) → (o ≡ Some r) ⊎ (o ≢ Some r)
waits_or None r = inr (λ e. cc)
waits_or (Some q) r = elim (cases_eq q r) [ inl e ↦ inl (ap Some e) | inr apart ↦ inr (λ e. apart (cc)) ]

-- ---- a transaction's end: its resources are handed over, one after the other

pub held_at_first : (s : TableState) (n : ℕ) → HeldAreUnchanged s s n
held_at_first s n k holds = unchanged s k

module _ (s t : TableState) (n r : ℕ) (key : Key) (laws : Laws t) (owned : owner_of t r ≡ Some key) (its : key.process ≡ n) (held : HeldAreUnchanged s t n) where
  -- whoever waits for r has n as holder
  pub holds : (k : ℕ) → wait_of t k ≡ Some r → holder_of t k ≡ Some n
  holds k waits = ap (λ o. option_map (λ (j : Key). j.process) (option_and_then (owner_of t) o)) waits ∙ ap (option_map (λ (j : Key). j.process)) owned ∙ ap Some its

  pub touches_next : (a b c : List Bool) → Touches s t a b → AddsAll (waiters_of t r) b c → Touches s (hand_over t r) a c
  touches_next a b c before adds =
      touches_apart s t (hand_over t r) a b c before (touches_hand_over t r laws b c adds)
      (λ k. elim (waits_or (wait_of t k) r) [
        | inl waits ↦ inl (held k (holds k waits))
        | inr other ↦ inr (hand_over_else t r laws k other)
      ])

  -- those whose holder n is afterwards did not wait for r
  pub held_next : ((k : ℕ) → wait_of t k ≡ Some r → holder_of (hand_over t r) k ≢ Some n) → HeldAreUnchanged s (hand_over t r) n
  held_next gone k holds_now = elim (waits_or (wait_of t k) r) [
    | inl waits ↦ absurd (gone k waits holds_now)
    | inr other ↦
        let after = hand_over_else t r laws k other in
        unchanged_then s t (hand_over t r) k (held k (sym after.holder ∙ holds_now)) after
  ]

-- ---- whoever waited for what is handed over has its new owner as holder, or none

blocks_owners : (s : TableState) (h : ℕ) (ws : List Wait) → (blocked_on s h ws).owners ≡ s.owners
blocks_owners s h [] = refl
blocks_owners s h (w ∷ ws) = blocks_owners (block s w.key.process h) h ws

module _ (t : TableState) (n r : ℕ) (laws : Laws t) (within : r < length t.owners) (active : wait_of t n ≡ None) where
  gone_by : (ws : List Wait) → waiters_of t r ≡ ws → (k : ℕ) → wait_of t k ≡ Some r → holder_of (give_to t r ws) k ≢ Some n
  gone_by [] queue k waits held_up = absurd (let found = in_queue t r k waits in subst (Among found.0) queue found.1)
  gone_by (first ∷ others) queue k waits held_up =
      let m = first.key.process in
      let left = activate t m in
      let owned = record left { owners = slice_set t.owners r (Some first.key) } in
      let u = give_to t r (first ∷ others) in
      let same_waits : (j : ℕ) → wait_of u j ≡ wait_of left j = λ j. ap (λ ws. waited_for ws j) (blocks_waits owned m others) in
      elim (cases_eq k m) [
        | inl e ↦
            let idle : wait_of u k ≡ None = same_waits k ∙ ap (wait_of left) e ∙ waits_no_longer t m in
            let never : None ≡ Some n = sym (no_holder u k idle) ∙ held_up in
            absurd (cc)
        | inr apart ↦
            let still : wait_of u k ≡ Some r = same_waits k ∙ waits_else t m k apart ∙ waits in
            let new : owner_of u r ≡ Some first.key = ap (λ os. slice_index_or os r None) (blocks_owners owned m others) ∙ get_or-set_same t.owners r (Some first.key) None within in
            let holder : holder_of u k ≡ Some m = ap (λ o. option_map (λ (j : Key). j.process) (option_and_then (owner_of u) o)) still ∙ ap (option_map (λ (j : Key). j.process)) new in
            let same : Some m ≡ Some n = sym holder ∙ held_up in
            let it_waits : wait_of t m ≡ Some r = waits_for t r first laws (subst (Among first) (sym queue) (inl refl)) in
            let is : m ≡ n = cc in
            let never : None ≡ Some r = sym active ∙ ap (wait_of t) (sym is) ∙ it_waits in
            absurd (cc)
      ]

  pub gone : (k : ℕ) → wait_of t k ≡ Some r → holder_of (hand_over t r) k ≢ Some n
  gone = gone_by (waiters_of t r) refl

-- ---- the rest of an end

-- a slot that is freed changes no labels, waits and verdicts
pub free_slot_else : (s : TableState) (n k : ℕ) → IsUnchanged s (free_slot s n) k
free_slot_else s n k = by (nat_lt (slice_index s.generations n) s.config.generation_limit)
  where
    by : (b : Bool) → IsUnchanged s (if b then record (record s { live = slice_set s.live n false }) { generations = slice_set s.generations n (slice_index s.generations n + 1); free = n ∷ s.free } else record s { live = slice_set s.live n false }) k
    by true = record { private = refl; public = refl; wait = refl; holder = refl; verdict = refl }
    by false = record { private = refl; public = refl; wait = refl; holder = refl; verdict = refl }

-- whoever does not take its wait back is as it was
withdraw_else : (s : TableState) (n k : ℕ) → k ≢ n → IsUnchanged s (take_back s n) k
withdraw_else s n k apart =
    let still = activate_else s n k apart in
    record {
      private = refl;
      public = refl;
      wait = still.wait;
      holder = still.holder;
      verdict = get_or-set_other s.verdicts n k false false apart;
    }

-- who takes its wait back is changed, and nobody else
pub touches_withdraw : (s : TableState) (n r : ℕ) (old new : List Bool) → wait_of s n ≡ Some r → Adds n old new → Touches s (take_back s n) old new
touches_withdraw s n r old new waits adds =
    touches_one s (take_back s n) n old new adds (withdraw_else s n) (λ same.
    let never : None ≡ Some r = sym (waits_no_longer s n) ∙ same.wait ∙ waits in
    cc)

-- ---- a transaction's end, from its start on

pub vacating_starts : (s : TableState) (n : ℕ) (set : List Bool) → IsVacating s n s set set
vacating_starts s n set = record {
  touches = touches_nobody s s set (unchanged s);
  held = held_at_first s n;
  idle = λ k active. unchanged s k;
}

-- one more of its resources is handed over
pub vacating_next : (s t : TableState) (n r : ℕ) (key : Key) (a b c : List Bool) → Laws t → r < length t.owners → owner_of t r ≡ Some key → key.process ≡ n → wait_of t n ≡ None
    → IsVacating s n t a b → AddsAll (waiters_of t r) b c → IsVacating s n (hand_over t r) a c
vacating_next s t n r key a b c laws within owned its active way adds = record {
  touches = touches_next s t n r key laws owned its way.held a b c way.touches adds;
  held = held_next s t n r key laws owned its way.held (gone t n r laws within active);
  idle = λ k idle_before.
      let same = way.idle k idle_before in
      unchanged_then s t (hand_over t r) k same (hand_over_else t r laws k (λ waits.
      let never : None ≡ Some r = sym idle_before ∙ sym same.wait ∙ waits in
      absurd (cc)));
}

-- and at last its slot is freed
pub vacating_ends : (s t : TableState) (n : ℕ) (a b : List Bool) → IsVacating s n t a b → IsVacating s n (free_slot t n) a b
vacating_ends s t n a b way = record {
  touches = touches_apart s t (free_slot t n) a b b way.touches (touches_nobody t (free_slot t n) b (free_slot_else t n)) (λ k. inr (free_slot_else t n k));
  held = λ k holds_now. unchanged_then s t (free_slot t n) k (way.held k (sym (free_slot_else t n k).holder ∙ holds_now)) (free_slot_else t n k);
  idle = λ k active. unchanged_then s t (free_slot t n) k (way.idle k active) (free_slot_else t n k);
}

-- an abort: its wait goes, and then all that it owns
pub abort_touches : (s u : TableState) (n r : ℕ) (a b c : List Bool) → wait_of s n ≡ Some r → Adds n a b → IsVacating (take_back s n) n u b c → Touches s u a c
abort_touches s u n r a b c waits adds way =
    touches_apart s (take_back s n) u a b c (touches_withdraw s n r a b waits adds) way.touches (λ k. elim (cases_eq k n) [
      | inl e ↦ inr (way.idle k (ap (wait_of (take_back s n)) e ∙ waits_no_longer s n))
      | inr apart ↦ inl (withdraw_else s n k apart)
    ])
