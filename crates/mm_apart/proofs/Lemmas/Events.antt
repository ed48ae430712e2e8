-- What each event of a lock manager's table leaves of the live transactions of other processes.
use Rattle.std.proofs.Common.{◌≡◌, ◌≢◌, ◌&&◌, ◌+◌, if◌then◌else◌, ℕ, Bool, true, false, List, length, fold, Option, Some, None, Ok, nat_eq, nat_lt, slice_index, slice_index_or, slice_set, inl, inr, refl, ap, ◌∙◌, arith, length-set, get_or-set_same}
use Rattle.std.specs.Option.{option_map_or}
use Rattle.std.proofs.lemmas.Bool.{cases_Bool, cases_lt, not-false}
use Rattle.std.proofs.lemmas.List.{get_or_past}
use Rattle.mm_arena.specs.declared.key.Key.{Key}
use Rattle.mm_rules.specs.declared.reply.Acquired.{Acquired}
use Rattle.mm_rules.specs.declared.reply.Released.{Released}
use Rattle.mm_rules.specs.TableState.{TableState, key_of, is_live, owner_of, owns, wait_of, waiters_of, resources_of, holder_of}
use Rattle.mm_rules.specs.Change.{activate, block, free_slot, vacate, vacate_fits, hand_over, hand_over_fits}
use Rattle.mm_rules.specs.Event.{Begin, Acquire, Release, Finish, Step, begin_tests, acquire_tests, acquire_answer, acquire_change, release_tests, release_answer, finish_tests}
use Rattle.mm_rules.specs.Laws.{Laws}
use Rattle.mm_rules.specs.Withdraw.{Withdraws, renew, shown_process, shows_waiting, withdraw, withdraw_tests}
use Rattle.mm_rules.proofs.States.Begin.{made_live, live_still}
use Rattle.mm_rules.proofs.States.HandOver.{hand_over_keeps}
use Rattle.mm_rules.proofs.States.Lookups.{none_of_is_some}
use Rattle.mm_rules.proofs.States.Outcome.{counting}
use Rattle.mm_rules.proofs.States.Release.{owns_gives, may_hand_over}
use Rattle.mm_settled.specs.Calls.{MadeWithdrawal, Rests}
use Rattle.mm_settled.proofs.Lemmas.Accepted.{accepted}
use Rattle.mm_apart.proofs.Lemmas.Slots.{SameSlot, same_slot, slot_then, same_live, rests_same, vacated_same}

counted_same : (p n : ℕ) (s t : TableState) → t ≡ counting s n → SameSlot p s t
counted_same p n s t is = record { live = ap (λ (u : TableState). slice_index_or u.live p false) is; generation = ap (λ (u : TableState). slice_index u.generations p) is }

-- ---- begin, acquire, withdraw

pub begun_live : (s u : TableState) (k t : Key) → Step Begin s (Ok k) u → is_live s t ≡ true → is_live u t ≡ true
begun_live s u k t step live =
    let n = slice_index s.free 0 in
    let done = accepted (begin_tests s) s (key_of s n) (made_live s n) k u step in
    ap (λ v. is_live v t) done.state ∙ live_still s n t live

change_same : (p : ℕ) (s : TableState) (k : Key) (r : ℕ) (o : Option Key) → SameSlot p s (acquire_change s k r o)
change_same p s k r None = record { live = refl; generation = refl }
change_same p s k r (Some h) = record { live = refl; generation = refl }

pub acquired_same : (p : ℕ) (s u : TableState) (k : Key) (r : ℕ) (answer : Acquired) → Step (Acquire k r) s (Ok answer) u → SameSlot p s u
acquired_same p s u k r answer step =
    let change : TableState = acquire_change s k r (owner_of s r) in
    let done = accepted (acquire_tests s k r) s (acquire_answer s k (owner_of s r)) change answer u step in
    slot_then p s change u (change_same p s k r (owner_of s r)) (counted_same p (change.totals.accepted + 1) change u done.state)

-- a new label frees no slot, and takes none
renewed_by : (p : ℕ) (s : TableState) (m : ℕ) (h : Option ℕ) → SameSlot p s (option_map_or (λ holder. block s m holder) h s)
renewed_by p s m None = same_slot p s
renewed_by p s m (Some h) = record { live = refl; generation = refl }

withdraw_by : (p : ℕ) (s : TableState) (n : ℕ) (b : Bool) → SameSlot p s (activate (if b then renew s (shown_process s n) else s) n)
withdraw_by p s n true =
    let renewed = renewed_by p s (shown_process s n) (holder_of s (shown_process s n)) in
    record { live = renewed.live; generation = renewed.generation }
withdraw_by p s n false = record { live = refl; generation = refl }

withdrawn_same : (p : ℕ) (s u : TableState) (k : Key) → Withdraws k s (Ok tt) u → SameSlot p s u
withdrawn_same p s u k step =
    let n = k.process in
    let done = accepted (withdraw_tests s k) s tt (withdraw s n) tt u step in
    slot_then p s (withdraw s n) u (withdraw_by p s n (shows_waiting s n)) (counted_same p ((withdraw s n).totals.accepted + 1) (withdraw s n) u done.state)

-- ---- release, finish

pub released_same : (p : ℕ) (s u : TableState) (k : Key) (r : ℕ) (answer : Released) → Laws s → Step (Release k r) s (Ok answer) u → SameSlot p s u
released_same p s u k r answer laws step =
    let done = accepted (release_tests s k r) s (release_answer (waiters_of s r)) (hand_over s r) answer u step in
    let owner = owns_gives s k.process r (not-false (owns s k.process r) done.passed.1.1.1.1.0) in
    let active : wait_of s k.process ≡ None = none_of_is_some (wait_of s k.process) done.passed.1.1.1.0 in
    let may = may_hand_over s k.process r owner.0 laws active owner.1 owner.2 in
    let over = hand_over_keeps s r owner.0 may (not-false (hand_over_fits s r) done.passed.1.1.1.1.1.0) in
    slot_then p s (hand_over s r) u
    (record { live = ap (λ (xs : List Bool). slice_index_or xs p false) over.live; generation = ap (λ (xs : List ℕ). slice_index xs p) over.generations })
    (counted_same p ((hand_over s r).totals.accepted + 1) (hand_over s r) u done.state)

pub finished_same : (p : ℕ) (s u : TableState) (k : Key) → Laws s → Step (Finish k) s (Ok tt) u → p ≢ k.process → SameSlot p s u
finished_same p s u k laws step apart =
    let n = k.process in
    let done = accepted (finish_tests s k) s tt (vacate s n) tt u step in
    slot_then p s (vacate s n) u (vacated_same p n s laws (none_of_is_some (wait_of s n) done.passed.1.1.0) (not-false (vacate_fits s n) done.passed.1.1.1.0) apart)
    (counted_same p ((vacate s n).totals.accepted + 1) (vacate s n) u done.state)

-- ---- who ends is live no longer

-- a mark that was taken off is off, also where there is none
unmarked_here : (xs : List Bool) (n : ℕ) → slice_index_or (slice_set xs n false) n false ≡ false
unmarked_here xs n = elim (cases_lt n (length xs)) [
  | inl within ↦ get_or-set_same xs n false false within
  | inr past ↦ get_or_past (slice_set xs n false) n false (omega (arith, past, length-set xs n false))
]

freed_gone : (s : TableState) (n : ℕ) → slice_index_or (free_slot s n).live n false ≡ false
freed_gone s n = elim (cases_Bool (nat_lt (slice_index s.generations n) s.config.generation_limit)) [
  | inl more ↦ rw more (unmarked_here s.live n)
  | inr last ↦ rw last (unmarked_here s.live n)
]

-- process p has no live key
abbrev pub IsGone : TableState → ℕ → Type 0
IsGone u p = slice_index_or u.live p false ≡ false

pub gone_dead : (u : TableState) (k : Key) → IsGone u k.process → is_live u k ≡ false
gone_dead u k gone = ap (λ b. b && nat_eq (slice_index u.generations k.process) k.generation) gone

pub finished_gone : (s u : TableState) (k : Key) → Step (Finish k) s (Ok tt) u → IsGone u k.process
finished_gone s u k step =
    let n = k.process in
    let done = accepted (finish_tests s k) s tt (vacate s n) tt u step in
    ap (λ (v : TableState). slice_index_or v.live n false) done.state ∙ freed_gone (fold hand_over s (resources_of s n)) n

-- ---- who made them was live

pub released_was_live : (s u : TableState) (k : Key) (r : ℕ) (answer : Released) → Step (Release k r) s (Ok answer) u → is_live s k ≡ true
released_was_live s u k r answer step = not-false (is_live s k) (accepted (release_tests s k r) s (release_answer (waiters_of s r)) (hand_over s r) answer u step).passed.1.0

pub finished_was_live : (s u : TableState) (k : Key) → Step (Finish k) s (Ok tt) u → is_live s k ≡ true
finished_was_live s u k step = not-false (is_live s k) (accepted (finish_tests s k) s tt (vacate s k.process) tt u step).passed.1.0

pub withdrawn_was_live : (s u : TableState) (k : Key) → Withdraws k s (Ok tt) u → is_live s k ≡ true
withdrawn_was_live s u k step = not-false (is_live s k) (accepted (withdraw_tests s k) s tt (withdraw s k.process) tt u step).passed.1.0

-- ---- and after the settle

pub rests_live : (s mid u : TableState) (t : Key) → Rests mid u → SameSlot t.process s mid → is_live u t ≡ is_live s t
rests_live s mid u t rests same = same_live s u t (slot_then t.process s mid u same (rests_same t.process mid u rests))

pub rests_dead : (mid u : TableState) (t : Key) → Rests mid u → is_live mid t ≡ false → is_live u t ≡ false
rests_dead mid u t rests dead = same_live mid u t (rests_same t.process mid u rests) ∙ dead

-- a withdrawal, with the settle after it
pub withdrawal_live : (s u : TableState) (k t : Key) → MadeWithdrawal k s u → is_live u t ≡ is_live s t
withdrawal_live s u k t made = rests_live s made.mid u t made.rests (withdrawn_same t.process s made.mid k made.event)
