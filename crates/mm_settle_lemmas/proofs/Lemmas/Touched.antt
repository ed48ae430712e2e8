-- Whom each event changed.
use Rattle.std.proofs.Common.{◌≡◌, ◌≢◌, ◌<◌, ◌≤◌, ℕ, Bool, true, false, List, [], ◌∷◌, length, slice_set, Option, Some, None, option_map, option_and_then, is_some, nat_eq, subst, inl, inr, refl, sym, ap, ◌∙◌, arith, length-set, get_or-set_other, get_or-set_same}
use Rattle.std.specs.Option.{option_map_or}
use Rattle.std.proofs.lemmas.Bool.{cases_eq, eqb-true}
use Rattle.mm_label.specs.Label.{Label, label_lt, opening_label}
use Rattle.mm_arena.specs.declared.key.Key.{Key}
use Rattle.mm_lists.proofs.Lemmas.Filter.{filter_gives}
use Rattle.mm_lists.proofs.Lemmas.NoRepeat.{found_by_number}
use Rattle.mm_lists.specs.Members.{Among}
use Rattle.mm_rules.specs.TableState.{TableState, Wait, public_of, owner_of, wait_of, waited_for, is_waiting, waiters_of}
use Rattle.mm_rules.specs.Change.{greater_label, can_transmit, transmit, block, label_against, activate, give_to, hand_over}
use Rattle.mm_rules.specs.Stages.{blocked_on}
use Rattle.mm_rules.specs.Laws.{Laws}
use Rattle.mm_rules.proofs.States.Lookups.{waiter_within}
use Rattle.mm_rules.proofs.States.Transmit.{shown}
use Rattle.mm_rules.proofs.States.Activate.{waits_no_longer, waits_else}
use Rattle.mm_bit_set.specs.BitSet.{has}
use Rattle.mm_settle_lemmas.specs.Touched.{IsUnchanged, IsChanged, Touches}
use Rattle.mm_settle_lemmas.specs.Steps.Added.{Adds, AddsAll}
use Rattle.mm_settle_lemmas.specs.Steps.Changed.{ChangesOnly}
use Rattle.mm_settle_lemmas.proofs.Lemmas.Frames.{transmit_holder, transmit_private, transmit_verdict, transmit_public, not_below_itself, raised_shows}
use Rattle.mm_settle_lemmas.proofs.Lemmas.Changed.{not_kept}
use Rattle.mm_settle_lemmas.proofs.Lemmas.Waiters.{in_queue}

pub unchanged : (s : TableState) (n : ℕ) → IsUnchanged s s n
unchanged s n = record { private = refl; public = refl; wait = refl; holder = refl; verdict = refl }

pub unchanged_then : (s t u : TableState) (n : ℕ) → IsUnchanged s t n → IsUnchanged t u n → IsUnchanged s u n
unchanged_then s t u n first second = record {
  private = second.private ∙ first.private;
  public = second.public ∙ first.public;
  wait = second.wait ∙ first.wait;
  holder = second.holder ∙ first.holder;
  verdict = second.verdict ∙ first.verdict;
}

-- one event after the other, where who changed does not change back
pub touches_then : (s t u : TableState) (a b c : List Bool) → Touches s t a b → Touches t u b c → ((n : ℕ) → IsChanged s t n → IsChanged s u n) → ((n : ℕ) → IsChanged t u n → IsChanged s u n)
    → Touches s u a c
touches_then s t u a b c first second once again = record {
  kept = λ n was. second.kept n (first.kept n was);
  others = λ n out. unchanged_then s t u n (first.others n (not_kept b c n second.kept out)) (second.others n out);
  changed = λ n here. elim (second.changed n here) [
    | inr changed ↦ inr (again n changed)
    | inl before ↦ elim (first.changed n before) [ inl was ↦ inl was | inr changed ↦ inr (once n changed) ]
  ];
  sized = second.sized ∙ first.sized;
}

-- so whoever may transmit or newly detect after an event is among those that it touched, where the same held before
pub touches_changes : (s t : TableState) (old new : List Bool) → Touches s t old new → ChangesOnly s t old new
touches_changes s t old new touched = record {
  kept = touched.kept;
  holders = λ n out. (touched.others n out).holder;
  publics = λ n out. (touched.others n out).public;
  privates = λ n out. (touched.others n out).private;
  verdicts = λ n out stands. (touched.others n out).verdict ∙ stands;
}

-- nobody was touched: each process is as it was
pub touches_nobody : (s t : TableState) (set : List Bool) → ((n : ℕ) → IsUnchanged s t n) → Touches s t set set
touches_nobody s t set same = record { kept = λ n was. was; others = λ n out. same n; changed = λ n here. inl here; sized = refl }

pub touches_one : (s t : TableState) (n : ℕ) (old new : List Bool) → Adds n old new → ((k : ℕ) → k ≢ n → IsUnchanged s t k) → IsChanged s t n → Touches s t old new
touches_one s t n old new adds same changed = record {
  kept = λ k was. elim (cases_eq k n) [ inl e ↦ ap (has new) e ∙ adds.here | inr apart ↦ adds.others k apart ∙ was ];
  others = λ k out. same k (λ e. let never : true ≡ false = sym adds.here ∙ ap (has new) (sym e) ∙ out in absurd (cc));
  changed = λ k here. elim (cases_eq k n) [
    | inl e ↦ inr (λ unchanged_k. changed (rw e at unchanged_k))
    | inr apart ↦ inl (sym (adds.others k apart) ∙ here)
  ];
  sized = adds.sized;
}

-- ---- a transmit

pub transmit_wait : (s : TableState) (n k : ℕ) → wait_of (transmit s n) k ≡ wait_of s k
transmit_wait s n k = by (greater_label s n)
  where
    by : (o : Option Label) → wait_of (option_map_or (shown s n) o s) k ≡ wait_of s k
    by None = refl
    by (Some l) = refl

-- a greater public label is a change
pub greater_is_changed : (s t : TableState) (n : ℕ) → label_lt (public_of s n) (public_of t n) ≡ true → IsChanged s t n
greater_is_changed s t n lower same =
    let never : true ≡ false = sym lower ∙ ap (label_lt (public_of s n)) same.public ∙ not_below_itself (public_of s n) in
    cc

pub touches_transmit : (s : TableState) (n : ℕ) (old new : List Bool) → Laws s → can_transmit s n ≡ true → Adds n old new → Touches s (transmit s n) old new
touches_transmit s n old new laws can adds =
    touches_one s (transmit s n) n old new adds
    (λ k apart. record {
      private = transmit_private s n k;
      public = transmit_public s n k apart;
      wait = transmit_wait s n k;
      holder = transmit_holder s n k;
      verdict = transmit_verdict s n k;
    })
    (greater_is_changed s (transmit s n) n (raised_shows s n laws can))

-- ---- a detect

-- ---- blocks

-- whoever is not blocked is as it was
pub block_else : (s : TableState) (n h k : ℕ) → k ≢ n → IsUnchanged s (block s n h) k
block_else s n h k apart = record {
  private = get_or-set_other s.private n k (label_against s n h) (opening_label k) apart;
  public = get_or-set_other s.public n k (label_against s n h) (opening_label k) apart;
  wait = refl;
  holder = refl;
  verdict = refl;
}

pub blocks_else : (s : TableState) (h : ℕ) (ws : List Wait) (k : ℕ) → ((w : Wait) → Among w ws → k ≢ w.key.process) → IsUnchanged s (blocked_on s h ws) k
blocks_else s h [] k apart = unchanged s k
blocks_else s h (w ∷ ws) k apart =
    unchanged_then s (block s w.key.process h) (blocked_on (block s w.key.process h) h ws) k (block_else s w.key.process h k (apart w (inl refl)))
    (blocks_else (block s w.key.process h) h ws k (λ v later. apart v (inr later)))

pub blocks_waits : (s : TableState) (h : ℕ) (ws : List Wait) → (blocked_on s h ws).waits ≡ s.waits
blocks_waits s h [] = refl
blocks_waits s h (w ∷ ws) = blocks_waits (block s w.key.process h) h ws

-- the counter of its public label rises
pub block_rises : (s : TableState) (n h : ℕ) → n < length s.public → (public_of s n).counter < (public_of (block s n h) n).counter
block_rises s n h within =
    let now = ap (λ (l : Label). l.counter) (get_or-set_same s.public n (label_against s n h) (opening_label n) within) in
    omega (arith, now)

-- and no counter falls
block_keeps : (s : TableState) (n h k : ℕ) → n < length s.public → (public_of s k).counter ≤ (public_of (block s n h) k).counter
block_keeps s n h k within = elim (cases_eq k n) [
  | inl e ↦ rw e (omega (arith, block_rises s n h within))
  | inr apart ↦ omega (arith, ap (λ (l : Label). l.counter) (block_else s n h k apart).public)
]

-- each of these has a public label
abbrev Have : List Label → List Wait → Type 0
Have labels ws = (w : Wait) → Among w ws → w.key.process < length labels

blocks_keep : (s : TableState) (h : ℕ) (ws : List Wait) (k : ℕ) → Have s.public ws → (public_of s k).counter ≤ (public_of (blocked_on s h ws) k).counter
blocks_keep s h [] k have = omega arith
blocks_keep s h (w ∷ ws) k have =
    omega (
      arith,
      block_keeps s w.key.process h k (have w (inl refl)),
      blocks_keep (block s w.key.process h) h ws k (λ v later. omega (arith, have v (inr later), length-set s.public w.key.process (label_against s w.key.process h))),
    )

blocks_rise : (s : TableState) (h : ℕ) (ws : List Wait) (w : Wait) → Have s.public ws → Among w ws → (public_of s w.key.process).counter < (public_of (blocked_on s h ws) w.key.process).counter
blocks_rise s h [] w have among = absurd among
blocks_rise s h (v ∷ ws) w have (inl is) =
    rw is (
    let sized = length-set s.public v.key.process (label_against s v.key.process h) in
    omega (
      arith,
      block_rises s v.key.process h (have v (inl refl)),
      blocks_keep (block s v.key.process h) h ws v.key.process (λ u later. omega (arith, have u (inr later), sized)),
    ))
blocks_rise s h (v ∷ ws) w have (inr later) =
    let sized = length-set s.public v.key.process (label_against s v.key.process h) in
    omega (
      arith,
      block_keeps s v.key.process h w.key.process (have v (inl refl)),
      blocks_rise (block s v.key.process h) h ws w (λ u after. omega (arith, have u (inr after), sized)) later,
    )

-- ---- a hand-over

-- who waits for r waits for it
pub waits_for : (s : TableState) (r : ℕ) (w : Wait) → Laws s → Among w (waiters_of s r) → wait_of s w.key.process ≡ Some r
waits_for s r w laws among =
    let of_it = filter_gives (λ v. nat_eq v.resource r) s.waits w among in
    ap (option_map (λ (v : Wait). v.resource)) (found_by_number (λ (v : Wait). v.key.process) s.waits w w.key.process laws.lawful.well_formed.waits_once of_it.0 refl)
    ∙ ap Some (eqb-true w.resource r of_it.1)

-- whoever does not wait for r is as it was once r has another owner
pub owner_else : (s : TableState) (r k : ℕ) (o : Option Key) → wait_of s k ≢ Some r → IsUnchanged s (record s { owners = slice_set s.owners r o }) k
owner_else s r k o apart = record {
  private = refl;
  public = refl;
  wait = refl;
  holder = by (wait_of s k) apart;
  verdict = refl;
}
  where
    by : (waits : Option ℕ) → waits ≢ Some r
        → option_map (λ (k : Key). k.process) (option_and_then (owner_of (record s { owners = slice_set s.owners r o })) waits) ≡ option_map (λ (k : Key). k.process) (option_and_then (owner_of s) waits)
    by None other = refl
    by (Some q) other = ap (option_map (λ (k : Key). k.process)) (get_or-set_other s.owners r q o None (λ e. other (ap Some e)))

-- whoever does not stop waiting is as it was
pub activate_else : (s : TableState) (n k : ℕ) → k ≢ n → IsUnchanged s (activate s n) k
activate_else s n k apart =
    let same = waits_else s n k apart in
    record {
      private = refl;
      public = refl;
      wait = same;
      holder = ap (λ o. option_map (λ (k : Key). k.process) (option_and_then (owner_of s) o)) same;
      verdict = refl;
    }

-- who stops waiting is changed, and nobody else
pub touches_activate : (s : TableState) (n : ℕ) (old new : List Bool) → is_waiting s n ≡ true → Adds n old new → Touches s (activate s n) old new
touches_activate s n old new waits adds =
    touches_one s (activate s n) n old new adds (activate_else s n) (λ same.
    let never : true ≡ false = sym waits ∙ ap is_some (sym same.wait ∙ waits_no_longer s n) in
    cc)

module _ (s : TableState) (r : ℕ) (laws : Laws s) where
  -- who is not in the queue of r does not wait for it
  not_queued : (k : ℕ) → ((w : Wait) → Among w (waiters_of s r) → k ≢ w.key.process) → wait_of s k ≢ Some r
  not_queued k apart waits = (let found = in_queue s r k waits in apart found.0 found.1 (sym found.2))

  -- who waits has a public label
  have_labels : (ws : List Wait) → ((w : Wait) → Among w ws → Among w (waiters_of s r)) → Have s.public ws
  have_labels ws all w among =
      let formed = laws.lawful.well_formed in
      omega (arith, waiter_within s formed w (filter_gives (λ v. nat_eq v.resource r) s.waits w (all w among)).0, formed.sizes.public)

  else_by : (ws : List Wait) → waiters_of s r ≡ ws → (k : ℕ) → ((w : Wait) → Among w ws → k ≢ w.key.process) → IsUnchanged s (give_to s r ws) k
  else_by [] queue k apart = owner_else s r k None (not_queued k (λ w among. apart w (subst (Among w) queue among)))
  else_by (first ∷ others) queue k apart =
      let n = first.key.process in
      let left = activate s n in
      let owned = record left { owners = slice_set s.owners r (Some first.key) } in
      let other : k ≢ n = apart first (inl refl) in
      let away : wait_of left k ≢ Some r = λ waits. not_queued k (λ w among. apart w (subst (Among w) queue among)) (sym (waits_else s n k other) ∙ waits) in
      unchanged_then s owned (blocked_on owned n others) k (unchanged_then s left owned k (activate_else s n k other) (owner_else left r k (Some first.key) away))
      (blocks_else owned n others k (λ w later. apart w (inr later)))

  changed_by : (ws : List Wait) → waiters_of s r ≡ ws → (w : Wait) → Among w ws → IsChanged s (give_to s r ws) w.key.process
  changed_by [] queue w among = absurd among
  changed_by (first ∷ others) queue w among =
      let n = first.key.process in
      let owned = record (activate s n) { owners = slice_set s.owners r (Some first.key) } in
      let queued : (v : Wait) → Among v others → Among v (waiters_of s r) = λ v after. subst (Among v) (sym queue) (inr after) in
      elim among [
        | inl is ↦ rw is (λ same.
            let idle : wait_of (give_to s r (first ∷ others)) n ≡ None = ap (λ ws. waited_for ws n) (blocks_waits owned n others) ∙ waits_no_longer s n in
            let never : None ≡ Some r = sym idle ∙ same.wait ∙ waits_for s r first laws (subst (Among first) (sym queue) (inl refl)) in
            absurd (cc))
        | inr later ↦ λ same.
            let up : (public_of s w.key.process).counter < (public_of (give_to s r (first ∷ others)) w.key.process).counter = blocks_rise owned n others w (have_labels others queued) later in
            absurd (omega (arith, up, ap (λ (l : Label). l.counter) same.public))
      ]

  -- whoever does not wait for r is as it was
  pub hand_over_else : (k : ℕ) → wait_of s k ≢ Some r → IsUnchanged s (hand_over s r) k
  hand_over_else k waits_not = else_by (waiters_of s r) refl k (λ w among e. waits_not (ap (wait_of s) e ∙ waits_for s r w laws among))

  pub touches_hand_over : (old new : List Bool) → AddsAll (waiters_of s r) old new → Touches s (hand_over s r) old new
  touches_hand_over old new adds = record {
    kept = adds.kept;
    others = λ k out. else_by (waiters_of s r) refl k (λ w among e. let never : true ≡ false = sym (adds.added w among) ∙ ap (has new) (sym e) ∙ out in absurd (cc));
    changed = λ k here. elim (adds.only k here) [
      | inl was ↦ inl was
      | inr queued ↦ inr (subst (IsChanged s (hand_over s r)) queued.2 (changed_by (waiters_of s r) refl queued.0 queued.1))
    ];
    sized = adds.sized;
  }
