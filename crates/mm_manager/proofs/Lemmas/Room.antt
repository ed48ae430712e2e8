-- What is left for the ends of transactions stays: no end takes from it, and a request is made only where there is enough after it.
use Rattle.std.proofs.Common.{◌≡◌, ◌≤◌, ◌<◌, ◌+◌, ◌-◌, ℕ, Bool, true, false, if◌then◌else◌, length, map, fold, count_by, Option, Some, None, is_some, Ok, MatchBool, inl, inr, refl, sym, ap, subst, ◌∙◌, arith, drop, slice_set, slice_index, slice_index_or}
use Rattle.std.specs.Option.{option_map_or}
use Rattle.std.proofs.lemmas.Bool.{cases_eq, not-false}
use Rattle.mm_arena.specs.declared.key.Key.{Key}
use Rattle.mm_lists.specs.Members.{NoRepeat}
use Rattle.mm_rules.specs.declared.reply.Acquired.TheVariants as acquired
use Rattle.mm_rules.specs.declared.reply.Acquired.{Acquired}
use Rattle.mm_rules.specs.declared.reply.Released.{Released}
use Rattle.mm_rules.specs.declared.reply.Settled.{Settled}
use Rattle.mm_rules.specs.declared.config.Config.{Config}
use Rattle.mm_rules.specs.TableState.{TableState, is_live, is_waiting, key_of, holder_of, owner_of, public_of, resources_of, wait_of, waiters_of, waiting_processes}
use Rattle.mm_rules.specs.Change.{activate, block, hand_over, vacate, can_detect, detect, swept, total_raises}
use Rattle.mm_rules.specs.Event.{Event, Begin, Acquire, Release, Finish, Settle, Answer, Step, Gives, Settles, settled, counts_exhausted, settle_tests, begin_tests, acquire_tests, acquire_answer, acquire_change, release_tests, release_answer, finish_tests}
use Rattle.mm_rules.specs.Laws.{Laws}
use Rattle.mm_rules.specs.Withdraw.{Withdraws, shown_process, shows_waiting, withdraw, withdraw_tests}
use Rattle.mm_rules.proofs.States.Block.{process_of}
use Rattle.mm_rules.proofs.States.Config.{event_config}
use Rattle.mm_rules.proofs.States.Counts.{event_counts}
use Rattle.mm_rules.proofs.States.Keys.{settle_same}
use Rattle.mm_rules.proofs.States.Lookups.{waits_here}
use Rattle.mm_rules.proofs.States.SettleKeeps.{settle_keeps}
use Rattle.mm_rules.proofs.States.SpentKeys.{SameKeys}
use Rattle.mm_rules.proofs.States.Vacate.{live_process}
use Rattle.mm_rules.proofs.States.WithdrawLaws.{withdraw_counts, withdraw_leaves}
use Rattle.mm_settled.specs.Calls.{Made, MadeWithdrawal, Rests, WaitsFrom, Declines}
use Rattle.mm_settled.proofs.Lemmas.Accepted.{IsAccepted, accepted}
use Rattle.mm_settled.proofs.Lemmas.Ends.{owner_in_range}
use Rattle.mm_manager.specs.Permit.{event_limit}
use Rattle.mm_manager.specs.private.Room.{LabelsWithin, HasLabels, to_end, HasReserve}
use Rattle.mm_manager.proofs.Lemmas.Labels.{activate_fewer, block_else, block_here, hand_over_keeps_labels, vacate_within, activate_within, settled_within, waits_within}
use Rattle.mm_manager.proofs.Lemmas.Fewer.{hand_over_less, hand_over_live, vacate_less, activate_less, few_to_end}

-- no label passes what there was
abbrev pub KeepsLabels : TableState → TableState → Type 0
KeepsLabels s u = (most : ℕ) → LabelsWithin s most → LabelsWithin u most

-- ---- what follows an event

-- from mid to u no label passes what there was, and as many are live, wait and are owned
pub record RestsWithin (mid u : TableState) : Type 0 where
  config : u.config ≡ mid.config
  labels : KeepsLabels mid u
  to_end : to_end u ≡ to_end mid
  pub keys : SameKeys mid u
  more : mid.totals.accepted ≤ u.totals.accepted
  few : u.totals.accepted ≤ mid.totals.accepted + 1
  aborts : u.totals.aborts ≡ mid.totals.aborts

record SettledWithin (mid u : TableState) : Type 0 where
  labels : KeepsLabels mid u
  keys : SameKeys mid u

settled_gives : (mid u : TableState) (n : ℕ) (answer : Settled) → Gives (settled mid n) (Ok answer) u → SettledWithin mid u
settled_gives mid u n answer gives =
    let t = swept mid n in
    let new = fold detect t (waiting_processes t) in
    let made : Settled = record { raises = total_raises mid n; verdicts = count_by (can_detect t) (waiting_processes t) } in
    let done : IsAccepted Settled (settle_tests mid) made new answer u = accepted (settle_tests mid) mid made new answer u gives in
    let same : SameKeys mid new = settle_same mid n in
    record {
      labels = λ most labels. subst (λ v. LabelsWithin v most) (sym done.state) (settled_within mid most n labels);
      keys = subst (λ v. SameKeys mid v) (sym done.state) record { generations = same.generations; live = same.live; free = same.free };
    }

settle_within : (mid u : TableState) (answer : Settled) (b : Bool) → MatchBool b (Gives (settled mid 0) (Ok answer) u) ((n : ℕ) × Settles mid n × Gives (settled mid n) (Ok answer) u) → SettledWithin mid u
settle_within mid u answer true gives = settled_gives mid u 0 answer gives
settle_within mid u answer false (n, settles, gives) = settled_gives mid u n answer gives

pub rests_within : (mid u : TableState) → Rests mid u → RestsWithin mid u
rests_within mid u (inl same) = subst (λ v. RestsWithin mid v) (sym same) record { config = refl; labels = λ most labels. labels; to_end = refl; keys = record { generations = refl; live = refl; free = refl }; more = omega arith; few = omega arith; aborts = refl }
rests_within mid u (inr (answer, step)) =
    let within = settle_within mid u answer (counts_exhausted mid) step in
    let keeps = settle_keeps mid u (Ok answer) step in
    let counts = event_counts Settle mid u (Ok answer) step in
    record {
      config = keeps.config;
      labels = within.labels;
      to_end = omega (arith, ap length keeps.waits, ap (count_by is_some) keeps.owners, ap (count_by (λ b. b)) within.keys.live);
      keys = within.keys;
      more = omega (arith, counts.0);
      few = omega (arith, counts.0);
      aborts = omega (arith, counts.2);
    }

-- ---- an end

-- from s to mid no label passes what the waits that ended leave room for, and fewer are live, wait or are owned
record EndsWithin (s mid : TableState) : Type 0 where
  labels : KeepsLabels s mid
  fewer : to_end mid + 1 ≤ to_end s

room_by : (s mid u : TableState) → HasReserve s → mid.config ≡ s.config → EndsWithin s mid → mid.totals.accepted ≡ s.totals.accepted + 1 → mid.totals.aborts ≤ s.totals.aborts + 1 → RestsWithin mid u → HasReserve u
room_by s mid u room config ends counted aborts rests = record {
  labels = subst (λ (c : Config). LabelsWithin u c.label_limit) (sym (rests.config ∙ config)) (rests.labels s.config.label_limit (ends.labels s.config.label_limit room.labels));
  events = omega (arith, room.events, ends.fewer, rests.to_end, counted, rests.few);
  aborts = omega (arith, room.aborts, aborts, counted, rests.more, rests.aborts);
}

made_room : (e : Event) (s u : TableState) (answer : Answer e) (made : Made e s answer u) → HasReserve s → EndsWithin s made.mid → made.mid.totals.aborts ≤ s.totals.aborts + 1 → HasReserve u
made_room e s u answer made room ends aborts =
    room_by s made.mid u room (event_config e s made.mid (Ok answer) made.event) ends (event_counts e s made.mid (Ok answer) made.event).0 aborts (rests_within made.mid u made.rests)

after_rests : (s mid u : TableState) → EndsWithin s mid → Rests mid u → KeepsLabels s u
after_rests s mid u ends rests most labels = (rests_within mid u rests).labels most (ends.labels most labels)

abbrev once_of : (s : TableState) → Laws s → NoRepeat (map process_of s.waits)
once_of s laws = laws.lawful.well_formed.waits_once

release_ends : (s mid : TableState) (k : Key) (r : ℕ) (answer : Released) → Laws s → owner_of s r ≡ Some k → Step (Release k r) s (Ok answer) mid → EndsWithin s mid
release_ends s mid k r answer laws owned event =
    let done : IsAccepted Released (release_tests s k r) (release_answer (waiters_of s r)) (hand_over s r) answer mid
    = accepted (release_tests s k r) s (release_answer (waiters_of s r)) (hand_over s r) answer mid event in
    let within : r < length s.owners = omega (arith, owner_in_range s laws r k owned, laws.lawful.well_formed.sizes.owners) in
    let less : to_end (hand_over s r) + 1 ≤ to_end s = omega (arith, hand_over_less s r k owned within, ap (count_by (λ b. b)) (hand_over_live s r)) in
    record {
      labels = λ most labels. subst (λ t. LabelsWithin t most) (sym done.state) ((hand_over_keeps_labels s r (once_of s laws)).within most labels);
      fewer = omega (arith, less, ap to_end done.state);
    }

pub release_room : (s u : TableState) (k : Key) (r : ℕ) (answer : Released) → Laws s → owner_of s r ≡ Some k → HasReserve s → Made (Release k r) s answer u → HasReserve u
release_room s u k r answer laws owned room made =
    made_room (Release k r) s u answer made room (release_ends s made.mid k r answer laws owned made.event)
    (omega (arith, (event_counts (Release k r) s made.mid (Ok answer) made.event).2))

pub release_labels : (s u : TableState) (k : Key) (r : ℕ) (answer : Released) → Laws s → owner_of s r ≡ Some k → Made (Release k r) s answer u → KeepsLabels s u
release_labels s u k r answer laws owned made = after_rests s made.mid u (release_ends s made.mid k r answer laws owned made.event) made.rests

finish_ends : (s mid : TableState) (k : Key) → Laws s → Step (Finish k) s (Ok tt) mid → EndsWithin s mid
finish_ends s mid k laws event =
    let n = k.process in
    let done : IsAccepted (Unit {0}) (finish_tests s k) tt (vacate s n) tt mid = accepted (finish_tests s k) s tt (vacate s n) tt mid event in
    let live : slice_index_or s.live n false ≡ true = live_process s k (not-false (is_live s k) done.passed.1.0) in
    record {
      labels = λ most labels. subst (λ t. LabelsWithin t most) (sym done.state) (vacate_within s n most (resources_of s n) (once_of s laws) labels);
      fewer = omega (arith, vacate_less s n (resources_of s n) live, ap to_end done.state);
    }

pub finish_room : (s u : TableState) (k : Key) → Laws s → HasReserve s → Made (Finish k) s tt u → HasReserve u
finish_room s u k laws room made =
    made_room (Finish k) s u tt made room (finish_ends s made.mid k laws made.event) (omega (arith, (event_counts (Finish k) s made.mid (Ok tt) made.event).2))

pub finish_labels : (s u : TableState) (k : Key) → Laws s → Made (Finish k) s tt u → KeepsLabels s u
finish_labels s u k laws made = after_rests s made.mid u (finish_ends s made.mid k laws made.event) made.rests

some_of_waiting : (s : TableState) (n : ℕ) → is_waiting s n ≡ true → (r : ℕ) × (wait_of s n ≡ Some r)
some_of_waiting s n waits = by_wait (wait_of s n) refl
  where
    by_wait : (o : Option ℕ) → wait_of s n ≡ o → (r : ℕ) × (wait_of s n ≡ Some r)
    by_wait (Some r) is = (r, is)
    by_wait None is = absurd (let never : true ≡ false = sym waits ∙ ap is_some is in cc)

-- a withdrawal ends a wait, and one new label takes no more than that leaves room for
withdraw_within : (s : TableState) (n m most : ℕ) (b : Bool) (o : Option ℕ) → length (activate s n).waits + 1 ≤ length s.waits → LabelsWithin s most
    → LabelsWithin (activate (if b then option_map_or (λ h. block s m h) o s else s) n) most
withdraw_within s n m most false o fewer labels p = omega (arith, labels p, fewer)
withdraw_within s n m most true None fewer labels p = omega (arith, labels p, fewer)
withdraw_within s n m most true (Some h) fewer labels p = elim (cases_eq p m) [
  | inl same ↦ omega (arith, block_here s m h, labels m, labels h, fewer, ap (λ q. (public_of (block s m h) q).counter) same)
  | inr apart ↦ omega (arith, block_else s m h p apart, labels p, fewer)
]

withdraw_to_end : (s : TableState) (n m : ℕ) (b : Bool) (o : Option ℕ) → to_end (activate (if b then option_map_or (λ h. block s m h) o s else s) n) ≡ to_end (activate s n)
withdraw_to_end s n m false o = refl
withdraw_to_end s n m true None = refl
withdraw_to_end s n m true (Some h) = refl

withdraw_ends : (s mid : TableState) (k : Key) → Withdraws k s (Ok tt) mid → EndsWithin s mid
withdraw_ends s mid k event =
    let n = k.process in
    let m = shown_process s n in
    let b = shows_waiting s n in
    let done : IsAccepted (Unit {0}) (withdraw_tests s k) tt (withdraw s n) tt mid = accepted (withdraw_tests s k) s tt (withdraw s n) tt mid event in
    let waits = some_of_waiting s n (not-false (is_waiting s n) done.passed.1.1.0) in
    let here = waits_here s n waits.0 waits.1 in
    let fewer : length (activate s n).waits + 1 ≤ length s.waits = subst (λ p. length (activate s p).waits + 1 ≤ length s.waits) here.process (activate_fewer s here.wait here.among) in
    record {
      labels = λ most labels. subst (λ t. LabelsWithin t most) (sym done.state) (withdraw_within s n m most b (holder_of s m) fewer labels);
      fewer = omega (arith, activate_less s n waits.0 waits.1, withdraw_to_end s n m b (holder_of s m), ap to_end done.state);
    }

pub withdraw_room : (s u : TableState) (k : Key) → HasReserve s → MadeWithdrawal k s u → HasReserve u
withdraw_room s u k room made =
    let counts = (withdraw_counts k s made.mid (Ok tt) made.event).0 in
    room_by s made.mid u room (withdraw_leaves k s made.mid (Ok tt) made.event).config (withdraw_ends s made.mid k made.event) counts.0 (omega (arith, counts.2))
    (rests_within made.mid u made.rests)

pub withdraw_labels : (s u : TableState) (k : Key) → MadeWithdrawal k s u → KeepsLabels s u
withdraw_labels s u k made = after_rests s made.mid u (withdraw_ends s made.mid k made.event) made.rests

-- ---- a request

pub asked_room : (s u : TableState) → HasReserve s → Laws u → u.config ≡ s.config → s.totals.accepted < event_limit → LabelsWithin u s.config.label_limit
    → u.totals.accepted ≤ s.totals.accepted + 2 → u.totals.aborts ≤ u.totals.accepted → HasReserve u
asked_room s u room laws config below labels few aborts = record {
  labels = subst (λ (c : Config). LabelsWithin u c.label_limit) (sym config) labels;
  events = omega (arith, few_to_end u laws, few, below);
  aborts = aborts;
}

pub begin_labels : (s u : TableState) (k : Key) → Step Begin s (Ok k) u → KeepsLabels s u
begin_labels s u k step most labels =
    let n = slice_index s.free 0 in
    let new : TableState = record s { free = drop 1 s.free; live = slice_set s.live n true } in
    let done : IsAccepted Key (begin_tests s) (key_of s n) new k u = accepted (begin_tests s) s (key_of s n) new k u step in
    subst (λ t. LabelsWithin t most) (sym done.state) labels

pub begin_room : (s u : TableState) (k : Key) → HasReserve s → Laws u → s.totals.accepted < event_limit → Step Begin s (Ok k) u → HasReserve u
begin_room s u k room laws below step =
    let counts = event_counts Begin s u (Ok k) step in
    asked_room s u room laws (event_config Begin s u (Ok k) step) below (begin_labels s u k step s.config.label_limit room.labels)
    (omega (arith, counts.0)) (omega (arith, counts.0, counts.2, room.aborts))

grant_within : (s : TableState) (k : Key) (r most : ℕ) (o : Option Key) → acquire_answer s k o ≡ acquired.Granted → LabelsWithin s most → LabelsWithin (acquire_change s k r o) most
grant_within s k r most None is labels = labels
grant_within s k r most (Some h) is labels = absurd (cc)

wait_within : (s : TableState) (k : Key) (r most : ℕ) (o : Option Key) → LabelsWithin s most → LabelsWithin (acquire_change s k r o) (most + 2)
wait_within s k r most None labels p = omega (arith, labels p)
wait_within s k r most (Some h) labels p = waits_within s (record { key = k; resource = r }) h.process most labels p

pub granted_labels : (s u : TableState) (k : Key) (r : ℕ) → Step (Acquire k r) s (Ok acquired.Granted) u → KeepsLabels s u
granted_labels s u k r step most labels =
    let done : IsAccepted Acquired (acquire_tests s k r) (acquire_answer s k (owner_of s r)) (acquire_change s k r (owner_of s r)) acquired.Granted u
    = accepted (acquire_tests s k r) s (acquire_answer s k (owner_of s r)) (acquire_change s k r (owner_of s r)) acquired.Granted u step in
    subst (λ t. LabelsWithin t most) (sym done.state) (grant_within s k r most (owner_of s r) done.answer labels)

pub granted_room : (s u : TableState) (k : Key) (r : ℕ) → HasReserve s → Laws u → s.totals.accepted < event_limit → Step (Acquire k r) s (Ok acquired.Granted) u → HasReserve u
granted_room s u k r room laws below step =
    let counts = event_counts (Acquire k r) s u (Ok acquired.Granted) step in
    asked_room s u room laws (event_config (Acquire k r) s u (Ok acquired.Granted) step) below (granted_labels s u k r step s.config.label_limit room.labels)
    (omega (arith, counts.0)) (omega (arith, counts.0, counts.2, room.aborts))

-- by a request that meets another owner the counter of a label and the number of waits together grow by two at the most
abbrev TakesLabels : TableState → TableState → Type 0
TakesLabels s u = (most : ℕ) → LabelsWithin s most → LabelsWithin u (most + 2)

limit_is_kept : (s u : TableState) → HasLabels s → TakesLabels s u → LabelsWithin u s.config.label_limit
limit_is_kept s u left takes p =
    let most = s.config.label_limit - 2 in
    let within : LabelsWithin s most = λ q. omega (arith, left q) in
    omega (arith, left 0, takes most within p)

pub waits_labels : (s u : TableState) (k h : Key) (r : ℕ) → WaitsFrom s k r h u → TakesLabels s u
waits_labels s u k h r from most labels =
    let answer : Acquired = acquired.Waits h from.label in
    let mid = from.mid in
    let done : IsAccepted Acquired (acquire_tests s k r) (acquire_answer s k (owner_of s r)) (acquire_change s k r (owner_of s r)) answer mid
    = accepted (acquire_tests s k r) s (acquire_answer s k (owner_of s r)) (acquire_change s k r (owner_of s r)) answer mid from.event in
    let rests : RestsWithin mid u = rests_within mid u (inr (from.answer, from.settle)) in
    rests.labels (most + 2) (subst (λ t. LabelsWithin t (most + 2)) (sym done.state) (wait_within s k r most (owner_of s r) labels))

pub waits_room : (s u : TableState) (k h : Key) (r : ℕ) → HasReserve s → Laws u → s.totals.accepted < event_limit → HasLabels s → WaitsFrom s k r h u → HasReserve u
waits_room s u k h r room laws below left from =
    let answer : Acquired = acquired.Waits h from.label in
    let mid = from.mid in
    let counts = event_counts (Acquire k r) s mid (Ok answer) from.event in
    let rests : RestsWithin mid u = rests_within mid u (inr (from.answer, from.settle)) in
    asked_room s u room laws (rests.config ∙ event_config (Acquire k r) s mid (Ok answer) from.event) below (limit_is_kept s u left (waits_labels s u k h r from))
    (omega (arith, counts.0, rests.few)) (omega (arith, counts.0, counts.2, room.aborts, rests.more, rests.aborts))

-- a request that is declined: it waited, and took back its wait
pub declines_labels : (s u : TableState) (k h : Key) (r : ℕ) → Declines s k r h u → TakesLabels s u
declines_labels s u k h r declined most labels =
    let v = declined.settled in
    let waited : LabelsWithin v (most + 2) = waits_labels s v k h r declined.waited most labels in
    subst (λ t. LabelsWithin t (most + 2)) (sym declined.back) (activate_within v k.process (most + 2) waited)

pub declines_room : (s u : TableState) (k h : Key) (r : ℕ) → HasReserve s → Laws u → s.totals.accepted < event_limit → HasLabels s → Declines s k r h u → HasReserve u
declines_room s u k h r room laws below left declined =
    let answer : Acquired = acquired.Waits h declined.waited.label in
    let from = declined.waited in
    let mid = from.mid in
    let v = declined.settled in
    let counts = event_counts (Acquire k r) s mid (Ok answer) from.event in
    let rests : RestsWithin mid v = rests_within mid v (inr (from.answer, from.settle)) in
    let events : u.totals.accepted ≡ v.totals.accepted = ap (λ (t : TableState). t.totals.accepted) declined.back in
    let aborts : u.totals.aborts ≡ v.totals.aborts + 1 = ap (λ (t : TableState). t.totals.aborts) declined.back in
    asked_room s u room laws declined.same.config below (limit_is_kept s u left (declines_labels s u k h r declined)) (omega (arith, counts.0, rests.few, events))
    (omega (arith, counts.0, counts.2, room.aborts, rests.more, rests.aborts, events, aborts))
