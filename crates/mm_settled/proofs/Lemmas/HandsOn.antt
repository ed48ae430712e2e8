-- What hand-overs leave of owners, waits and verdicts: each resource goes to its longest waiter, whose wait ends, and nobody else's does.
use Rattle.std.proofs.Common.{◌≡◌, ◌≢◌, ◌⊎◌, ◌<◌, ℕ, List, [], ◌∷◌, length, fold, nat_lt, Option, Some, None, slice_set, slice_index, inl, inr, refl, sym, ap, subst, ◌∙◌}
use Rattle.std.proofs.lemmas.Bool.{cases_Bool, cases_eq, eqb-true}
use Rattle.std.proofs.Common.{nat_eq, slice_index_or, get_or-set_same, get_or-set_other}
use Rattle.mm_arena.specs.declared.key.Key.{Key}
use Rattle.mm_lists.specs.Members.{Among, NoRepeat}
use Rattle.mm_lists.proofs.Lemmas.Filter.{filter_gives}
use Rattle.mm_rules.specs.Stages.{blocked_on}
use Rattle.mm_rules.specs.TableState.{TableState, Wait, owner_of, wait_of, waited_for, waiters_of}
use Rattle.mm_rules.specs.Change.{block, activate, give_to, hand_over, free_slot}
use Rattle.mm_rules.specs.Laws.{Laws}
use Rattle.mm_rules.proofs.States.Activate.{waits_no_longer, waits_else}
use Rattle.mm_rules.proofs.States.Lookups.{waiter_waits}
use Rattle.mm_rules.proofs.States.HandOverLaws.{MayHandOver, owner_within}
use Rattle.mm_rules.proofs.States.HandOver.{HandedOver, hand_over_keeps}
use Rattle.mm_rules.proofs.States.Release.{may_hand_over}
use Rattle.mm_rules.proofs.States.Vacate.{Vacating, vacating_next}

-- the key of the longest waiter, if there is one
abbrev pub next_owner : List Wait → Option Key
next_owner [] = None
next_owner (w ∷ ws) = Some w.key

-- ---- one hand-over

blocked_owners : (s : TableState) (h : ℕ) (ws : List Wait) → (blocked_on s h ws).owners ≡ s.owners
blocked_owners s h [] = refl
blocked_owners s h (w ∷ ws) = blocked_owners (block s w.key.process h) h ws

blocked_waits : (s : TableState) (h : ℕ) (ws : List Wait) → (blocked_on s h ws).waits ≡ s.waits
blocked_waits s h [] = refl
blocked_waits s h (w ∷ ws) = blocked_waits (block s w.key.process h) h ws

blocked_verdicts : (s : TableState) (h : ℕ) (ws : List Wait) → (blocked_on s h ws).verdicts ≡ s.verdicts
blocked_verdicts s h [] = refl
blocked_verdicts s h (w ∷ ws) = blocked_verdicts (block s w.key.process h) h ws

abbrev given_first : TableState → ℕ → Wait → TableState
given_first s r first = activate (record s { owners = slice_set s.owners r (Some first.key) }) first.key.process

give_to_owners : (s : TableState) (r : ℕ) (ws : List Wait) → (give_to s r ws).owners ≡ slice_set s.owners r (next_owner ws)
give_to_owners s r [] = refl
give_to_owners s r (first ∷ others) = blocked_owners (given_first s r first) first.key.process others

give_to_verdicts : (s : TableState) (r : ℕ) (ws : List Wait) → (give_to s r ws).verdicts ≡ s.verdicts
give_to_verdicts s r [] = refl
give_to_verdicts s r (first ∷ others) = blocked_verdicts (given_first s r first) first.key.process others

pub hand_over_verdicts : (s : TableState) (r : ℕ) → (hand_over s r).verdicts ≡ s.verdicts
hand_over_verdicts s r = give_to_verdicts s r (waiters_of s r)

pub hand_over_owner : (s : TableState) (r : ℕ) → r < length s.owners → owner_of (hand_over s r) r ≡ next_owner (waiters_of s r)
hand_over_owner s r within =
    ap (λ os. slice_index_or os r None) (give_to_owners s r (waiters_of s r)) ∙ get_or-set_same s.owners r (next_owner (waiters_of s r)) None within

pub hand_over_else : (s : TableState) (r q : ℕ) → q ≢ r → owner_of (hand_over s r) q ≡ owner_of s q
hand_over_else s r q apart =
    ap (λ os. slice_index_or os q None) (give_to_owners s r (waiters_of s r)) ∙ get_or-set_other s.owners r q (next_owner (waiters_of s r)) None apart

-- m is the process of the longest waiter
pub record IsNext (s : TableState) (r m : ℕ) : Type 0 where
  pub key : Key
  pub next : next_owner (waiters_of s r) ≡ Some key
  pub process : key.process ≡ m

give_to_wait : (s : TableState) (r : ℕ) (ws : List Wait) (m : ℕ) → (wait_of (give_to s r ws) m ≡ wait_of s m) ⊎ ((k : Key) × (next_owner ws ≡ Some k) × (k.process ≡ m) × (wait_of (give_to s r ws) m ≡ None))
give_to_wait s r [] m = inl refl
give_to_wait s r (first ∷ others) m = elim (cases_eq m first.key.process) [
  | inl e ↦ inr (first.key, refl, sym e, rw e (ap (λ ws. waited_for ws first.key.process) (blocked_waits (given_first s r first) first.key.process others) ∙ waits_no_longer s first.key.process))
  | inr apart ↦ inl (ap (λ ws. waited_for ws m) (blocked_waits (given_first s r first) first.key.process others) ∙ waits_else s first.key.process m apart)
]

pub hand_over_wait : (s : TableState) (r m : ℕ) → (wait_of (hand_over s r) m ≡ wait_of s m) ⊎ (IsNext s r m × (wait_of (hand_over s r) m ≡ None))
hand_over_wait s r m = elim (give_to_wait s r (waiters_of s r) m) [
  | inl same ↦ inl same
  | inr next ↦ inr (record { key = next.0; next = next.1; process = next.2 }, next.3)
]

-- the longest waiter waits for it
next_waits_by : (s : TableState) (r : ℕ) (k : Key) (ws : List Wait) → Laws s → waiters_of s r ≡ ws → next_owner ws ≡ Some k → wait_of s k.process ≡ Some r
next_waits_by s r k [] laws are next = absurd (cc)
next_waits_by s r k (first ∷ others) laws are next =
    let same : first.key ≡ k = cc in
    let here : Among first (waiters_of s r) = subst (Among first) (sym are) (inl refl) in
    let was = filter_gives (λ (w : Wait). nat_eq w.resource r) s.waits first here in
    waiter_waits s laws.lawful.well_formed first k.process was.0 (ap (λ (h : Key). h.process) same) ∙ ap Some (eqb-true first.resource r was.1)

pub next_waits : (s : TableState) (r : ℕ) (k : Key) → Laws s → next_owner (waiters_of s r) ≡ Some k → wait_of s k.process ≡ Some r
next_waits s r k laws next = next_waits_by s r k (waiters_of s r) laws refl next

-- ---- all of these, one after the other

pub record HandsAll (s : TableState) (rs : List ℕ) (new : TableState) : Type 0 where
  pub inside : (r : ℕ) → Among r rs → owner_of new r ≡ next_owner (waiters_of s r)
  pub outside : (r : ℕ) → (Among r rs → ⊥) → owner_of new r ≡ owner_of s r
  pub waits : (m : ℕ) → (wait_of new m ≡ wait_of s m) ⊎ ((r : ℕ) × Among r rs × IsNext s r m × (wait_of new m ≡ None))
  pub verdicts : new.verdicts ≡ s.verdicts

module _ (s new : TableState) (n q : ℕ) (rs : List ℕ) (within : q < length s.owners) (once : NoRepeat (q ∷ rs)) (o : ℕ) (over : HandedOver s q o (hand_over s q)) (rest : HandsAll (hand_over s q) rs new) where
  not_first : (r : ℕ) → Among r rs → r ≢ q
  not_first r among e = once.0 (subst (λ i. Among i rs) e among)

  all_inside : (r : ℕ) → Among r (q ∷ rs) → owner_of new r ≡ next_owner (waiters_of s r)
  all_inside r (inl here) = rw here (rest.outside q once.0 ∙ hand_over_owner s q within)
  all_inside r (inr later) = rest.inside r later ∙ ap next_owner (over.waiters r (not_first r later))

  all_waits : (m : ℕ) → (wait_of new m ≡ wait_of s m) ⊎ ((r : ℕ) × Among r (q ∷ rs) × IsNext s r m × (wait_of new m ≡ None))
  all_waits m = elim (rest.waits m) [
    | inl same ↦ elim (hand_over_wait s q m) [ inl before ↦ inl (same ∙ before) | inr next ↦ inr (q, inl refl, next.0, same ∙ next.1) ]
    | inr later ↦ inr (
      later.0,
      inr later.1,
      record { key = later.2.key; next = sym (ap next_owner (over.waiters later.0 (not_first later.0 later.1))) ∙ later.2.next; process = later.2.process },
      later.3,
    )
  ]

  hands_one_more : HandsAll s (q ∷ rs) new
  hands_one_more = record {
    inside = all_inside;
    outside = λ r out. rest.outside r (λ later. out (inr later)) ∙ hand_over_else s q r (λ e. out (inl e));
    waits = all_waits;
    verdicts = rest.verdicts ∙ hand_over_verdicts s q;
  }

pub hands_all : (old s : TableState) (n : ℕ) (rs : List ℕ) → NoRepeat rs → Vacating old s n rs → HandsAll s rs (fold hand_over s rs)
hands_all old s n [] once now = record { inside = λ r among. absurd among; outside = λ r out. refl; waits = λ m. inl refl; verdicts = refl }
hands_all old s n (q ∷ rs) once now =
    let owner = now.owned q (inl refl) in
    let may : MayHandOver s q owner.0 = may_hand_over s n q owner.0 now.keeps.laws now.active owner.1 owner.2 in
    let over : HandedOver s q owner.0.process (hand_over s q) = hand_over_keeps s q owner.0 may (now.fits q (inl refl)) in
    hands_one_more s (fold hand_over (hand_over s q) rs) n q rs (owner_within s q owner.0 may) once owner.0.process over
    (hands_all old (hand_over s q) n rs once.1 (vacating_next old s n q rs once now))

-- ---- a slot that is freed

pub free_slot_owners : (s : TableState) (n : ℕ) → (free_slot s n).owners ≡ s.owners
free_slot_owners s n = elim (cases_Bool (nat_lt (slice_index s.generations n) s.config.generation_limit)) [ inl again ↦ rw again refl | inr retired ↦ rw retired refl ]

pub free_slot_waits : (s : TableState) (n : ℕ) → (free_slot s n).waits ≡ s.waits
free_slot_waits s n = elim (cases_Bool (nat_lt (slice_index s.generations n) s.config.generation_limit)) [ inl again ↦ rw again refl | inr retired ↦ rw retired refl ]

pub free_slot_verdicts : (s : TableState) (n : ℕ) → (free_slot s n).verdicts ≡ s.verdicts
free_slot_verdicts s n = elim (cases_Bool (nat_lt (slice_index s.generations n) s.config.generation_limit)) [ inl again ↦ rw again refl | inr retired ↦ rw retired refl ]
