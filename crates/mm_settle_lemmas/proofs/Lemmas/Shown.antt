-- What each event changes of what processes show.
use Rattle.std.proofs.Common.{◌≡◌, ◌≢◌, ◌<◌, ◌+◌, ◌++◌, ℕ, Bool, true, false, nat_eq, List, [], ◌∷◌, length, fold, Option, Some, None, Result, Ok, Err, MatchBool, IsTrue, zero, suc, inl, inr, refl, ap, ◌∙◌, arith, get_or-set_same, get_or-set_other}
use Rattle.std.specs.Option.{option_map_or}
use Rattle.std.specs.List.{range_with_len, AllByRecursion}
use Rattle.std.proofs.lemmas.Bool.{cases_Bool, eq-eqb, not-false}
use Rattle.mm_label.specs.Label.{Label, opening_label}
use Rattle.mm_arena.specs.declared.key.Key.{Key}
use Rattle.mm_lists.specs.Members.{Among}
use Rattle.mm_lists.proofs.Lemmas.Filter.{filter_gives, filter_keeps}
use Rattle.mm_lists.proofs.Lemmas.Range.{among_range, among_range_gives}
use Rattle.mm_rules.specs.declared.refusal.Refusal.{Refusal}
use Rattle.mm_rules.specs.declared.reply.Acquired.{Acquired}
use Rattle.mm_rules.specs.declared.reply.Released.{Released}
use Rattle.mm_rules.specs.declared.reply.Transmitted.{Transmitted}
use Rattle.mm_rules.specs.declared.reply.Detected.{Detected}
use Rattle.mm_rules.specs.declared.reply.Settled.{Settled}
use Rattle.mm_rules.specs.declared.reply.Transmitted.TheVariants.{Raised, Still}
use Rattle.mm_rules.specs.TableState.{TableState, Wait, public_of, holder_of, has_verdict, owner_of, wait_of, waited_for, waiting_processes, is_live}
use Rattle.mm_rules.specs.Change.{label_against, block, activate, hand_over, vacate, vacate_fits, take_back, abort, greater_label, transmit, can_detect, detect, swept}
use Rattle.mm_rules.specs.Event.{Event, Begin, Acquire, Release, Finish, Transmit, Detect, Abort, Settle, GiveUp, Gives, Step, Tests, allowed, decided, outcome, Settles, settled, counts_exhausted, begin_tests, acquire_tests, acquire_answer, acquire_change, release_tests, finish_tests, waiting_tests, abort_tests, settle_tests, give_up_tests}
use Rattle.mm_rules.specs.Laws.{Laws}
use Rattle.mm_rules.proofs.States.Abort.{fits_still}
use Rattle.mm_rules.proofs.States.Activate.{waits_no_longer}
use Rattle.mm_rules.proofs.States.Detect.{detect_still, detect_convicts}
use Rattle.mm_rules.proofs.States.GiveUp.{take_back_keeps}
use Rattle.mm_rules.proofs.States.Lookups.{live_within, none_of_is_some, holder_is, no_holder}
use Rattle.mm_rules.proofs.States.Outcome.{counting, tests_false}
use Rattle.mm_rules.proofs.States.Transmit.{shown}
use Rattle.mm_settle_lemmas.specs.Touched.{IsUnchanged, is_changed, changed_processes}
use Rattle.mm_settle_lemmas.specs.Shown.{ShowsTheSame, ChangesShown, ShownChangesAreTold}
use Rattle.mm_settle_lemmas.proofs.Lemmas.Acquired.{queue_else, touches_grant}
use Rattle.mm_settle_lemmas.proofs.Lemmas.Frames.{transmit_holder}
use Rattle.mm_settle_lemmas.proofs.Lemmas.Idle.{hand_over_idle, vacate_idle}
use Rattle.mm_settle_lemmas.proofs.Lemmas.Told.{unchanged_is}
use Rattle.mm_settle_lemmas.proofs.Lemmas.Touched.{unchanged_then, block_else, activate_else}

-- ---- whoever is as it was shows what it showed

unchanged_shows : (s t : TableState) (n : ℕ) → IsUnchanged s t n → ShowsTheSame s t n
unchanged_shows s t n same = record { public = same.public; holder = same.holder }

module _ (s t : TableState) (n : ℕ) where
  untold_shows : n < s.config.processes → (Among n (changed_processes s t) → ⊥) → ShowsTheSame s t n
  untold_shows within untold = elim (cases_Bool (is_changed s t n)) [
    | inl changed ↦ absurd (untold (filter_keeps (is_changed s t) (range_with_len 0 s.config.processes) n (among_range 0 s.config.processes n (omega arith) (omega arith)) changed))
    | inr same ↦ unchanged_shows s t n (unchanged_is s t n same)
  ]

  told_within : Among n (changed_processes s t) → n < s.config.processes
  told_within told =
      let place = among_range_gives 0 s.config.processes n (filter_gives (is_changed s t) (range_with_len 0 s.config.processes) n told).0 in
      omega arith

-- ---- the outcome of an event

-- what holds of a refusal in the old state, and of an acceptance in the changed one where all tests are false, holds of what the event gives
gives_by : {A : Type 0} (P : Result A Refusal → TableState → Type 0) (tests : Tests) (old : TableState) (answer : A) (new : TableState)
    → ((refusal : Refusal) → P (Err refusal) old) → (AllByRecursion (λ t. t.0 ≡ false) tests → (m : ℕ) → P (Ok answer) (counting new m))
    → (reply : Result A Refusal) (t : TableState) → Gives (outcome tests old answer new) reply t → P reply t
gives_by P tests old answer new refused accepted reply t gives = by (allowed tests) refl gives
  where
    by : (r : Result (Unit {0}) Refusal) → allowed tests ≡ r → Gives (decided r old answer new) reply t → P reply t
    by (Err refusal) is given = rw (given.0, given.1) (refused refusal)
    by (Ok u) is given = rw (given.0, given.1) (accepted (tests_false tests is) (new.totals.accepted + 1))

-- a refused event changes nothing
refused_shown : (e : Event) (refusal : Refusal) (s : TableState) → ChangesShown e (Err refusal) s s
refused_shown e refusal s = record { others = λ n within out. record { public = refl; holder = refl }; within = λ n among. absurd among; shown = tt }

-- ---- begin and detect: nobody shows anything else

begin_shown : (s t : TableState) (reply : Result Key Refusal) → Step Begin s reply t → ChangesShown Begin reply s t
begin_shown s t reply step =
    gives_by (λ reply t. ChangesShown Begin reply s t) (begin_tests s) s _ _ (λ refusal. refused_shown Begin refusal s)
    (λ tests m. record { others = λ n within out. record { public = refl; holder = refl }; within = λ n among. absurd among; shown = tt })
    reply t step

detect_shows : (s : TableState) (n k : ℕ) → ShowsTheSame s (detect s n) k
detect_shows s n k = elim (cases_Bool (can_detect s n)) [
  | inl can ↦ let is = detect_convicts s n can in record { public = ap (λ (t : TableState). public_of t k) is; holder = ap (λ (t : TableState). holder_of t k) is }
  | inr not_yet ↦ let is = detect_still s n not_yet in record { public = ap (λ (t : TableState). public_of t k) is; holder = ap (λ (t : TableState). holder_of t k) is }
]

detect_shown : (s t : TableState) (k : Key) (reply : Result Detected Refusal) → Step (Detect k) s reply t → ChangesShown (Detect k) reply s t
detect_shown s t k reply step =
    gives_by (λ reply t. ChangesShown (Detect k) reply s t) (waiting_tests s k) s _ _ (λ refusal. refused_shown (Detect k) refusal s)
    (λ tests m. record {
      others = λ n within out. let same = detect_shows s k.process n in record { public = same.public; holder = same.holder };
      within = λ n among. absurd among;
      shown = tt;
    })
    reply t step

-- ---- acquire

-- who did not wait waits for what it waits for last
waited_last : (ws : List Wait) (w : Wait) → waited_for ws w.key.process ≡ None → waited_for (ws ++ w ∷ []) w.key.process ≡ Some w.resource
waited_last [] w active = rw (eq-eqb w.key.process w.key.process refl) refl
waited_last (v ∷ ws) w active = elim (cases_Bool (nat_eq v.key.process w.key.process)) [
  | inl here ↦ let never : Some v.resource ≡ None = rw here at active in absurd (cc)
  | inr past ↦ rw past (waited_last ws w (rw past at active))
]

-- the caller's process alone
only : (n k : ℕ) (processes : ℕ) → k < processes → Among n (k ∷ []) → n < processes
only n k processes within (inl e) = rw e within
only n k processes within (inr never) = absurd never

module _ (s : TableState) (k : Key) (r m : ℕ) (laws : Laws s) where
  acquire_by : (o : Option Key) → owner_of s r ≡ o → IsTrue (is_live s k) → wait_of s k.process ≡ None
      → ChangesShown (Acquire k r) (Ok (acquire_answer s k o)) s (counting (acquire_change s k r o) m)
  acquire_by None free live active = record {
    others = λ n within out. let same = (touches_grant s k r [] laws.lawful.well_formed free).others n refl in record { public = same.public; holder = same.holder };
    within = λ n among. absurd among;
    shown = tt;
  }
  acquire_by (Some h) owned live active =
      let w : Wait = record { key = k; resource = r } in
      let queued = record s { waits = s.waits ++ w ∷ [] } in
      let t = counting (block queued k.process h.process) m in
      let sizes = laws.lawful.well_formed.sizes in
      let here : k.process < s.config.processes = live_within s k sizes live in
      let in_public : k.process < length s.public = omega (arith, sizes.public) in
      record {
        others = λ n within out.
            let apart : n ≢ k.process = λ e. out (inl e) in
            let same = unchanged_then s queued (block queued k.process h.process) n (queue_else s w n apart) (block_else queued k.process h.process n apart) in
            record { public = same.public; holder = same.holder };
        within = λ n among. only n k.process s.config.processes here among;
        shown = record {
          within = here;
          public = get_or-set_same s.public k.process (label_against s k.process h.process) (opening_label k.process) in_public;
          holder = holder_is t k.process r h (waited_last s.waits w active) owned;
        };
      }

acquire_shown : (s t : TableState) (k : Key) (r : ℕ) (reply : Result Acquired Refusal) → Laws s → Step (Acquire k r) s reply t → ChangesShown (Acquire k r) reply s t
acquire_shown s t k r reply laws step =
    gives_by (λ reply t. ChangesShown (Acquire k r) reply s t) (acquire_tests s k r) s _ _ (λ refusal. refused_shown (Acquire k r) refusal s)
    (λ tests m. acquire_by s k r m laws (owner_of s r) refl (not-false (is_live s k) tests.1.0) (none_of_is_some (wait_of s k.process) tests.1.1.1.0))
    reply t step

-- ---- transmit

module _ (s : TableState) (k : Key) (m : ℕ) (here : k.process < s.config.processes) (sized : length s.public ≡ s.config.processes) where
  transmit_by : (o : Option Label) → ChangesShown (Transmit k) (Ok (option_map_or Raised o Still)) s (counting (option_map_or (shown s k.process) o s) m)
  transmit_by None = record { others = λ n within out. record { public = refl; holder = refl }; within = λ n among. absurd among; shown = tt }
  transmit_by (Some l) = record {
    others = λ n within out. record { public = get_or-set_other s.public k.process n l (opening_label n) (λ e. out (inl e)); holder = refl };
    within = λ n among. only n k.process s.config.processes here among;
    shown = record { within = here; public = get_or-set_same s.public k.process l (opening_label k.process) (omega arith); holder = refl };
  }

transmit_shown : (s t : TableState) (k : Key) (reply : Result Transmitted Refusal) → Laws s → Step (Transmit k) s reply t → ChangesShown (Transmit k) reply s t
transmit_shown s t k reply laws step =
    let sizes = laws.lawful.well_formed.sizes in
    gives_by (λ reply t. ChangesShown (Transmit k) reply s t) (waiting_tests s k) s _ _ (λ refusal. refused_shown (Transmit k) refusal s)
    (λ tests m. transmit_by s k m (live_within s k sizes (not-false (is_live s k) tests.1.0)) sizes.public (greater_label s k.process))
    reply t step

-- ---- settle

transmits_holder : (s : TableState) (ns : List ℕ) (k : ℕ) → holder_of (fold transmit s ns) k ≡ holder_of s k
transmits_holder s [] k = refl
transmits_holder s (n ∷ ns) k = transmits_holder (transmit s n) ns k ∙ transmit_holder s n k

swept_holder : (s : TableState) (n k : ℕ) → holder_of (swept s n) k ≡ holder_of s k
swept_holder s zero k = refl
swept_holder s (suc n) k = transmits_holder (swept s n) (waiting_processes (swept s n)) k ∙ swept_holder s n k

detects_holder : (s : TableState) (ns : List ℕ) (k : ℕ) → holder_of (fold detect s ns) k ≡ holder_of s k
detects_holder s [] k = refl
detects_holder s (n ∷ ns) k = detects_holder (detect s n) ns k ∙ (detect_shows s n k).holder

settle_by : (s t : TableState) (n : ℕ) (reply : Result Settled Refusal) → Gives (settled s n) reply t → ChangesShown Settle reply s t
settle_by s t n reply gives =
    let last = swept s n in
    gives_by (λ reply t. ChangesShown Settle reply s t) (settle_tests s) s _ _ (λ refusal. refused_shown Settle refusal s)
    (λ tests m. record {
      others = λ k within out. untold_shows s (counting (fold detect last (waiting_processes last)) m) k within out;
      within = λ k told. told_within s (counting (fold detect last (waiting_processes last)) m) k told;
      shown = λ k. detects_holder last (waiting_processes last) k ∙ swept_holder s n k;
    })
    reply t gives

settle_shown : (s t : TableState) (reply : Result Settled Refusal) (b : Bool)
    → MatchBool b (Gives (settled s 0) reply t) ((n : ℕ) × Settles s n × Gives (settled s n) reply t) → ChangesShown Settle reply s t
settle_shown s t reply true step = settle_by s t 0 reply step
settle_shown s t reply false (n, settles, step) = settle_by s t n reply step

-- ---- the ends, and who gives up

release_shown : (s t : TableState) (k : Key) (r : ℕ) (reply : Result Released Refusal) → Laws s → Step (Release k r) s reply t → ChangesShown (Release k r) reply s t
release_shown s t k r reply laws step =
    gives_by (λ reply t. ChangesShown (Release k r) reply s t) (release_tests s k r) s _ _ (λ refusal. refused_shown (Release k r) refusal s)
    (λ tests m. record { others = λ n within out. untold_shows s (counting (hand_over s r) m) n within out; within = λ n told. told_within s (counting (hand_over s r) m) n told; shown = λ n idle. hand_over_idle s r laws n idle })
    reply t step

finish_shown : (s t : TableState) (k : Key) (reply : Result (Unit {0}) Refusal) → Laws s → Step (Finish k) s reply t → ChangesShown (Finish k) reply s t
finish_shown s t k reply laws step =
    gives_by (λ reply t. ChangesShown (Finish k) reply s t) (finish_tests s k) s _ _ (λ refusal. refused_shown (Finish k) refusal s)
    (λ tests m. record { others = λ n within out. untold_shows s (counting (vacate s k.process) m) n within out; within = λ n told. told_within s (counting (vacate s k.process) m) n told; shown = λ n idle. vacate_idle s k.process laws (none_of_is_some (wait_of s k.process) tests.1.1.0) (not-false (vacate_fits s k.process) tests.1.1.1.0) n idle })
    reply t step

abort_shown : (s t : TableState) (k : Key) (reply : Result (Unit {0}) Refusal) → Laws s → Step (Abort k) s reply t → ChangesShown (Abort k) reply s t
abort_shown s t k reply laws step =
    gives_by (λ reply t. ChangesShown (Abort k) reply s t) (abort_tests s k) s _ _ (λ refusal. refused_shown (Abort k) refusal s)
    (λ tests m. record {
      others = λ n within out. untold_shows s (counting (abort s k.process) m) n within out;
      within = λ n told. told_within s (counting (abort s k.process) m) n told;
      shown = λ i idle.
          let n = k.process in
          let withdrawn = (take_back_keeps s n laws (not-false (has_verdict s n) tests.1.1.0)).laws in
          vacate_idle (take_back s n) n withdrawn (waits_no_longer s n) (fits_still s n laws (not-false (vacate_fits s n) tests.1.1.1.0)) i idle;
    })
    reply t step

give_up_shown : (s t : TableState) (k : Key) (reply : Result (Unit {0}) Refusal) → Laws s → Step (GiveUp k) s reply t → ChangesShown (GiveUp k) reply s t
give_up_shown s t k reply laws step =
    let sizes = laws.lawful.well_formed.sizes in
    gives_by (λ reply t. ChangesShown (GiveUp k) reply s t) (give_up_tests s k) s _ _ (λ refusal. refused_shown (GiveUp k) refusal s)
    (λ tests m. record {
      others = λ n within out. let same = activate_else s k.process n (λ e. out (inl e)) in record { public = same.public; holder = same.holder };
      within = λ n among. only n k.process s.config.processes (live_within s k sizes (not-false (is_live s k) tests.1.0)) among;
      shown = record {
        within = live_within s k sizes (not-false (is_live s k) tests.1.0);
        public = refl;
        holder = no_holder (activate s k.process) k.process (waits_no_longer s k.process);
      };
    })
    reply t step

-- ---- each event

pub shown_changes_are_told : ShownChangesAreTold
shown_changes_are_told Begin s t reply step laws = begin_shown s t reply step
shown_changes_are_told (Acquire k r) s t reply step laws = acquire_shown s t k r reply laws step
shown_changes_are_told (Release k r) s t reply step laws = release_shown s t k r reply laws step
shown_changes_are_told (Finish k) s t reply step laws = finish_shown s t k reply laws step
shown_changes_are_told (Transmit k) s t reply step laws = transmit_shown s t k reply laws step
shown_changes_are_told (Detect k) s t reply step laws = detect_shown s t k reply step
shown_changes_are_told (Abort k) s t reply step laws = abort_shown s t k reply laws step
shown_changes_are_told Settle s t reply step laws = settle_shown s t reply (counts_exhausted s) step
shown_changes_are_told (GiveUp k) s t reply step laws = give_up_shown s t k reply laws step
