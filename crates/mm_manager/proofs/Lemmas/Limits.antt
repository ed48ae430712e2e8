-- No end of a transaction is refused while there is room for it, and no request is that is made only where there is room for it.
use Rattle.std.proofs.Common.{◌≡◌, ◌≤◌, ◌<◌, ◌+◌, ◌^◌, ◌∷◌, ℕ, Bool, true, false, not, List, [], Option, Some, None, is_some, length, count_by, nat_eq, nat_le, Result, Ok, Err, MatchBool, inl, inr, refl, sym, ap, subst, ◌∙◌, arith}
use Rattle.std.specs.List.{AllByRecursion}
use Rattle.std.specs.Option.{option_map_or}
use Rattle.std.proofs.lemmas.Bool.{and_parts, eq-eqb, lt-leb, le-leb, lt-ltb}
use Rattle.std.proofs.lemmas.List.Sums.{count_by-le-length}
use Rattle.mm_arena.specs.declared.key.Key.{Key}
use Rattle.mm_lists.specs.Members.{Among}
use Rattle.mm_lists.proofs.Lemmas.Among.{list_all_from}
use Rattle.mm_lists.proofs.Lemmas.Filter.{filter_gives}
use Rattle.mm_rules.specs.declared.refusal.Refusal.{Refusal}
use Rattle.mm_rules.specs.declared.refusal.Refusal.TheVariants.{CountsExhausted, Stale, NoResource, Waiting, Carried}
use Rattle.mm_rules.specs.TableState.{TableState, Wait, is_live, is_waiting, has_verdict, holder_of, owner_of, owns, resources_of, wait_of, waiters_of}
use Rattle.mm_rules.specs.Change.{label_against, block_fits, give_to_fits, hand_over, hand_over_fits, vacate, vacate_fits}
use Rattle.mm_rules.specs.Event.{Tests, Release, Finish, Gives, Step, allowed, counts_exhausted, decided, outcome, resource_tests, acquire_tests, acquire_answer, acquire_change, release_tests, release_answer, finish_tests}
use Rattle.mm_rules.specs.Laws.{Laws}
use Rattle.mm_rules.specs.Withdraw.{renew_fits, shown_process, shows_waiting, withdraw, withdraw_tests, Withdraws}
use Rattle.mm_rules.proofs.States.Lookups.{waits_here}
use Rattle.mm_rules.proofs.States.Vacate.{live_process}
use Rattle.mm_settled.specs.Calls.{Locks, MakesWithdrawal, Refuses, has_room}
use Rattle.mm_settled.proofs.Lemmas.Ends.{owner_in_range}
use Rattle.mm_manager.specs.Permit.{event_limit}
use Rattle.mm_manager.specs.private.Room.{LabelsWithin, HasLabels, HasReserve}
use Rattle.mm_manager.proofs.Lemmas.Fewer.{live_to_end}

-- ---- which test refuses

refused_by : {A : Type 0} (r : Result (Unit {0}) Refusal) (old new : TableState) (answer : A) (e : Refusal) → Err e ≡ (decided r old answer new).reply → r ≡ Err e
refused_by (Ok passed) old new answer e is = absurd (cc)
refused_by (Err refusal) old new answer e is = (let same : e ≡ refusal = cc in ap Err (sym same))

refused_tests : {A : Type 0} (tests : Tests) (old : TableState) (answer : A) (new : TableState) (e : Refusal) (t : TableState) → Gives (outcome tests old answer new) (Err e) t → allowed tests ≡ Err e
refused_tests tests old answer new e t gives = refused_by (allowed tests) old new answer e gives.0

-- P holds of the refusal of each test that is true
abbrev EachTrue : (Refusal → Type 0) → Tests → Type 0
EachTrue P tests = AllByRecursion (λ t. t.0 ≡ true → P t.1) tests

each_true : (P : Refusal → Type 0) (tests : Tests) (e : Refusal) → EachTrue P tests → allowed tests ≡ Err e → P e
each_true P [] e each is = (let never : Ok tt ≡ Err e = is in absurd (cc))
each_true P ((true, refusal) ∷ tests) e each is = (let same : refusal ≡ e = cc in subst P same (each.0 refl))
each_true P ((false, refusal) ∷ tests) e each is = each_true P tests e each.1 is

-- no test is true
abbrev Never : Refusal → Type 0
Never e = ⊥

never_true : {X : Type 0} (b : Bool) → b ≡ false → b ≡ true → X
never_true b none is = (let never : false ≡ true = sym none ∙ is in absurd (cc))

not_of : (b : Bool) → b ≡ true → not b ≡ false
not_of b is = ap not is

-- the process of the owner owns
pub owner_owns : (s : TableState) (k : Key) (r : ℕ) → owner_of s r ≡ Some k → owns s k.process r ≡ true
owner_owns s k r is = ap (λ o. option_map_or (λ (h : Key). nat_eq h.process k.process) o false) is ∙ eq-eqb k.process k.process refl

-- ---- counts

-- an event and a settle can be counted
pub record CanCount (s : TableState) : Type 0 where
  pub room : has_room s ≡ true
  pub counts : counts_exhausted s ≡ false

can_count_by : (s : TableState) → Laws s → s.totals.aborts ≤ s.totals.accepted → s.totals.accepted + 65538 ≤ 2 ^ 62 → CanCount s
can_count_by s laws aborts below =
    let few : count_by (λ v. v) s.verdicts ≤ 65536 = omega (arith, count_by-le-length (λ v. v) s.verdicts, laws.lawful.well_formed.sizes.verdicts, laws.lawful.well_formed.config.processes.1) in
    let verdicts : s.totals.verdicts < 2 ^ 62 = omega (arith, few, laws.lawful.counted, aborts, below) in
    record {
      room = rw (lt-ltb (s.totals.accepted + 1) (2 ^ 62) (omega (arith, below)), lt-ltb s.totals.verdicts (2 ^ 62) verdicts) refl;
      counts = rw (lt-leb (2 ^ 62) s.totals.accepted (omega (arith, below)), lt-leb (2 ^ 62) s.totals.verdicts verdicts) refl;
    }

-- so it is while somebody is live, and before a request
pub live_can_count : (s : TableState) (k : Key) → Laws s → HasReserve s → is_live s k ≡ true → CanCount s
live_can_count s k laws room live = can_count_by s laws room.aborts (omega (arith, live_to_end s k.process (live_process s k live), room.events))

pub asked_can_count : (s : TableState) → Laws s → HasReserve s → s.totals.accepted < event_limit → CanCount s
asked_can_count s laws room below = can_count_by s laws room.aborts (omega (arith, below))

-- ---- labels

-- where somebody waits, there is room for each label that a hand-over makes
module _ (s : TableState) (labels : LabelsWithin s s.config.label_limit) where
  block_has_room : (n h : ℕ) → 1 ≤ length s.waits → block_fits s n h ≡ true
  block_has_room n h some = le-leb (label_against s n h).counter s.config.label_limit (omega (arith, labels n, labels h, some))

  pub renew_has_room : (m : ℕ) → 1 ≤ length s.waits → renew_fits s m ≡ true
  renew_has_room m some = by (holder_of s m)
    where
      by : (o : Option ℕ) → option_map_or (λ h. block_fits s m h) o true ≡ true
      by None = refl
      by (Some h) = block_has_room m h some

  some_wait : (w : Wait) (ws : List Wait) → Among w ws → 1 ≤ length ws
  some_wait w [] among = absurd among
  some_wait w (v ∷ ws) among = omega arith

  give_has_room : (r : ℕ) (ws : List Wait) → waiters_of s r ≡ ws → give_to_fits s ws ≡ true
  give_has_room r [] are = refl
  give_has_room r (first ∷ others) are =
      let waiting : Among first s.waits = (filter_gives (λ w. nat_eq w.resource r) s.waits first (subst (Among first) (sym are) (inl refl))).0 in
      list_all_from (λ w. block_fits s w.key.process first.key.process) others (λ w among. block_has_room w.key.process first.key.process (some_wait first s.waits waiting))

  hand_over_has_room : (r : ℕ) → hand_over_fits s r ≡ true
  hand_over_has_room r = give_has_room r (waiters_of s r) refl

  vacate_has_room : (n : ℕ) → vacate_fits s n ≡ true
  vacate_has_room n = list_all_from (hand_over_fits s) (resources_of s n) (λ r among. hand_over_has_room r)

-- ---- the end of a transaction, and a release

-- where there is room, the table refuses by itself
by_room : (b : Bool) (P Q : Type 0) → b ≡ true → MatchBool b P Q → P
by_room true P Q is given = given
by_room false P Q is given = absurd (cc)

module _ (s : TableState) (k : Key) (laws : Laws s) (room : HasReserve s) (live : is_live s k ≡ true) where
  can : CanCount s
  can = live_can_count s k laws room live

  not_counted : {P : Type 0} → counts_exhausted s ≡ true → P
  not_counted = never_true (counts_exhausted s) can.counts

  not_stale : {P : Type 0} → not (is_live s k) ≡ true → P
  not_stale = never_true (not (is_live s k)) (ap not live)

  module _ (idle : wait_of s k.process ≡ None) where
    not_waiting : {P : Type 0} → is_waiting s k.process ≡ true → P
    not_waiting = never_true (is_waiting s k.process) (ap is_some idle)

    pub finish_never : (u : TableState) (e : Refusal) → Refuses (Finish k) s e u → ⊥
    finish_never u e refuses =
        each_true Never (finish_tests s k) e
        ((λ is. not_counted is), ((λ is. not_stale is), ((λ is. not_waiting is), ((λ is. never_true (not (vacate_fits s k.process)) (not_of (vacate_fits s k.process) (vacate_has_room s room.labels k.process)) is), tt))))
        (refused_tests (finish_tests s k) s tt (vacate s k.process) e s (by_room (has_room s) (Step (Finish k) s (Err e) s) (e ≡ CountsExhausted) can.room refuses.1))

    module _ (r : ℕ) (owned : owner_of s r ≡ Some k) where
      pub release_never : (u : TableState) (e : Refusal) → Refuses (Release k r) s e u → ⊥
      release_never u e refuses =
          each_true Never (release_tests s k r) e (
            (λ is. not_counted is),
            (
              (λ is. not_stale is),
              (
                (λ is. never_true (nat_le s.config.resources r) (lt-leb s.config.resources r (owner_in_range s laws r k owned)) is),
                (
                  (λ is. not_waiting is),
                  ((λ is. never_true (not (owns s k.process r)) (not_of (owns s k.process r) (owner_owns s k r owned)) is), ((λ is. never_true (not (hand_over_fits s r)) (not_of (hand_over_fits s r) (hand_over_has_room s room.labels r)) is), tt)),
                ),
              ),
            ),
          )
          (refused_tests (release_tests s k r) s (release_answer (waiters_of s r)) (hand_over s r) e s (by_room (has_room s) (Step (Release k r) s (Err e) s) (e ≡ CountsExhausted) can.room refuses.1))

  -- ---- a wait that is taken back

  abbrev IsCarried : Refusal → Type 0
  IsCarried e = e ≡ Carried

  -- the new label of a withdrawal fits, so only the test for `Carried` can refuse it
  pub withdraw_carried : (r : ℕ) → wait_of s k.process ≡ Some r → has_verdict s k.process ≡ false → (u : TableState) (e : Refusal) → MakesWithdrawal k s (Err e) u → (e ≡ Carried) × Withdraws k s (Err Carried) s
  withdraw_carried r waits free u e refuses =
      let n = k.process in
      let m = shown_process s n in
      let here = waits_here s n r waits in
      let some : 1 ≤ length s.waits = some_wait s room.labels here.wait s.waits here.among in
      let step : Withdraws k s (Err e) s = by_room (has_room s) (Withdraws k s (Err e) s) (e ≡ CountsExhausted) can.room refuses.1 in
      let carried : e ≡ Carried = each_true IsCarried (withdraw_tests s k) e (
        (λ is. not_counted is),
        (
          (λ is. not_stale is),
          (
            (λ is. never_true (not (is_waiting s n)) (ap (λ o. not (is_some o)) waits) is),
            (
              (λ is. never_true (has_verdict s n) free is),
              (
                (λ is. refl),
                (
                  (λ is. never_true (not (renew_fits s m)) (not_of (renew_fits s m) (renew_has_room s room.labels m some)) (and_parts (shows_waiting s n) (not (renew_fits s m)) is).1),
                  tt,
                ),
              ),
            ),
          ),
        ),
      )
      (refused_tests (withdraw_tests s k) s tt (withdraw s n) e s step) in
      (carried, subst (λ x. Withdraws k s (Err x) s) carried step)

-- ---- a request

passes_by : (a b c d : Bool) → a ≡ false → b ≡ false → c ≡ false → d ≡ false → allowed ((a, CountsExhausted) ∷ (b, Stale) ∷ (c, NoResource) ∷ (d, Waiting) ∷ []) ≡ Ok tt
passes_by a b c d a_is b_is c_is d_is = rw (a_is, b_is, c_is, d_is) refl

module _ (s : TableState) (k : Key) (laws : Laws s) (room : HasReserve s) (live : is_live s k ≡ true) (idle : wait_of s k.process ≡ None) (below : s.totals.accepted < event_limit)
    (r : ℕ) (in_range : r < s.config.resources) (other : owns s k.process r ≡ false) where
  asked_can : CanCount s
  asked_can = asked_can_count s laws room below

  -- where somebody owns it, there is a label left for who waits
  fits_by : (o : Option Key) → ((h : Key) → o ≡ Some h → HasLabels s) → option_map_or (λ h. not (block_fits s k.process h.process)) o false ≡ false
  fits_by None fits = refl
  fits_by (Some h) fits = not_of (block_fits s k.process h.process)
      (le-leb (label_against s k.process h.process).counter s.config.label_limit (omega (arith, fits h refl k.process, fits h refl h.process)))

  -- it is not refused whoever owns the number
  pub may_use : allowed (resource_tests s k r) ≡ Ok tt
  may_use = passes_by (counts_exhausted s) (not (is_live s k)) (nat_le s.config.resources r) (is_waiting s k.process) asked_can.counts (ap not live) (lt-leb s.config.resources r in_range) (ap is_some idle)

  pub lock_never : ((h : Key) → owner_of s r ≡ Some h → HasLabels s) → (u : TableState) (e : Refusal) → Locks s k r (Err e) u → ⊥
  lock_never fits u e locks = elim locks.1 [
    | inr full ↦ (let never : true ≡ false = sym asked_can.room ∙ full.1 in cc)
    | inl step ↦ each_true Never (acquire_tests s k r) e (
      (λ is. never_true (counts_exhausted s) asked_can.counts is),
      (
        (λ is. never_true (not (is_live s k)) (ap not live) is),
        (
          (λ is. never_true (nat_le s.config.resources r) (lt-leb s.config.resources r in_range) is),
          (
            (λ is. never_true (is_waiting s k.process) (ap is_some idle) is),
            (
              (λ is. never_true (owns s k.process r) other is),
              ((λ is. never_true (option_map_or (λ h. not (block_fits s k.process h.process)) (owner_of s r) false) (fits_by (owner_of s r) fits) is), tt),
            ),
          ),
        ),
      ),
    )
        (refused_tests (acquire_tests s k r) s (acquire_answer s k (owner_of s r)) (acquire_change s k r (owner_of s r)) e s step)
  ]
