-- No event brings a spent key back, and begin gives a key that was not live.
use Rattle.std.proofs.Common.{◌≡◌, ◌≢◌, ℕ, zero, suc, List, [], ◌∷◌, length, fold, nat_eq, slice_index, slice_index_or, slice_get, slice_set, Bool, true, false, Option, Some, None, Result, Ok, Err, MatchBool, if◌then◌else◌, count_by, IsTrue, IsFalse, inl, inr, refl, sym, ap, subst, ◌∙◌, arith, get_or-set_same, get_or-set_other}
use Rattle.std.specs.List.{AllByRecursion}
use Rattle.std.specs.Option.{option_map_or}
use Rattle.std.proofs.lemmas.Bool.{eqb-false, eq-eqb, and_from, and_left, not-false}
use Rattle.std.proofs.lemmas.Option.{slice_get_within, get_or_from_slice_get}
use Rattle.mm_label.specs.Label.{Label}
use Rattle.mm_arena.specs.declared.key.Key.{Key}
use Rattle.mm_lists.specs.Members.{Among}
use Rattle.mm_lists.proofs.Lemmas.Among.{all_at, among_rest_gives, first_among}
use Rattle.mm_rules.specs.declared.refusal.Refusal.{Refusal}
use Rattle.mm_rules.specs.declared.reply.Settled.{Settled}
use Rattle.mm_rules.specs.declared.reply.Transmitted.TheVariants.{Raised, Still}
use Rattle.mm_rules.specs.declared.reply.Detected.TheVariants.{Deadlock, Standing, Clear}
use Rattle.mm_rules.specs.TableState.{TableState, Wait, is_live, key_of, has_verdict, private_of, owner_of, resources_of, waiters_of, waiting_processes}
use Rattle.mm_rules.specs.Change.{activate, give_to, hand_over, vacate, take_back, greater_label, transmit, can_detect, detect, swept, total_raises, abort}
use Rattle.mm_rules.specs.Event.{Tests, Event, Begin, Acquire, Release, Finish, Transmit, Detect, Abort, Settle, GiveUp, Answer, Gives, Step, Run, Settles, allowed, outcome, decided, begin_tests, acquire_tests, acquire_answer, acquire_change, release_tests, release_answer, waiting_tests, give_up_tests, settle_tests, finish_tests, abort_tests, settled, counts_exhausted}
use Rattle.mm_rules.specs.Laws.{Laws}
use Rattle.mm_rules.proofs.States.Outcome.{counting, outcome_keeps, tests_false}
use Rattle.mm_rules.proofs.States.Begin.{made_live, live_still}
use Rattle.mm_rules.proofs.States.Grant.{owned_by}
use Rattle.mm_rules.proofs.States.Transmit.{shown}
use Rattle.mm_rules.proofs.States.Detect.{convicted}
use Rattle.mm_rules.proofs.States.Block.{blocked_all, blocked_is}
use Rattle.mm_rules.proofs.States.Vacate.{live_process}
use Rattle.mm_rules.proofs.States.Lookups.{live_within}
use Rattle.mm_rules.proofs.States.EventsKeepLaws.{event_keeps}
use Rattle.mm_rules.proofs.States.SpentKeys.{spent_is_dead, KeepsKeys, keys_then, SameKeys, same_keys_then, same_keeps_keys, IsTaken, free_slot_keys}

unchanged : (s : TableState) → SameKeys s s
unchanged s = record { generations = refl; live = refl; free = refl }

-- ---- changes of no key

acquire_same : (s : TableState) (k : Key) (r : ℕ) (o : Option Key) → SameKeys s (acquire_change s k r o)
acquire_same s k r None = record { generations = refl; live = refl; free = refl }
acquire_same s k r (Some h) = record { generations = refl; live = refl; free = refl }

give_same : (s : TableState) (r : ℕ) (ws : List Wait) → SameKeys s (give_to s r ws)
give_same s r [] = record { generations = refl; live = refl; free = refl }
give_same s r (first ∷ others) =
    let is : blocked_all (activate (owned_by s r (Some first.key)) first.key.process) first.key.process others
    ≡ record (activate (owned_by s r (Some first.key)) first.key.process) {
      private = (blocked_all (activate (owned_by s r (Some first.key)) first.key.process) first.key.process others).private;
      public = (blocked_all (activate (owned_by s r (Some first.key)) first.key.process) first.key.process others).public;
    }
    = blocked_is (activate (owned_by s r (Some first.key)) first.key.process) first.key.process others in
    record { generations = ap (λ (t : TableState). t.generations) is; live = ap (λ (t : TableState). t.live) is; free = ap (λ (t : TableState). t.free) is }

transmit_same : (s : TableState) (n : ℕ) (o : Option Label) → SameKeys s (option_map_or (shown s n) o s)
transmit_same s n None = unchanged s
transmit_same s n (Some l) = record { generations = refl; live = refl; free = refl }

detect_same : (s : TableState) (n : ℕ) (b : Bool) → SameKeys s (if b then convicted s n else s)
detect_same s n true = record { generations = refl; live = refl; free = refl }
detect_same s n false = unchanged s

-- one change after the other
all_same : (change : TableState → ℕ → TableState) → ((s : TableState) (n : ℕ) → SameKeys s (change s n)) → (s : TableState) (ns : List ℕ) → SameKeys s (fold change s ns)
all_same change each s [] = unchanged s
all_same change each s (n ∷ ns) = same_keys_then s (change s n) (fold change (change s n) ns) (each s n) (all_same change each (change s n) ns)

hand_overs_same : (s : TableState) (rs : List ℕ) → SameKeys s (fold hand_over s rs)
hand_overs_same = all_same hand_over (λ s r. give_same s r (waiters_of s r))

transmits_same : (s : TableState) (ns : List ℕ) → SameKeys s (fold transmit s ns)
transmits_same = all_same transmit (λ s n. transmit_same s n (greater_label s n))

detects_same : (s : TableState) (ns : List ℕ) → SameKeys s (fold detect s ns)
detects_same = all_same detect (λ s n. detect_same s n (can_detect s n))

swept_same : (s : TableState) (n : ℕ) → SameKeys s (swept s n)
swept_same s zero = unchanged s
swept_same s (suc n) = same_keys_then s (swept s n) (swept s (suc n)) (swept_same s n) (transmits_same (swept s n) (waiting_processes (swept s n)))

pub settle_same : (s : TableState) (n : ℕ) → SameKeys s (fold detect (swept s n) (waiting_processes (swept s n)))
settle_same s n = same_keys_then s (swept s n) (fold detect (swept s n) (waiting_processes (swept s n))) (swept_same s n) (detects_same (swept s n) (waiting_processes (swept s n)))

-- ---- vacate and begin

still_taken : (s t : TableState) (n : ℕ) → SameKeys s t → IsTaken s n → IsTaken t n
still_taken s t n same taken = record {
  live = rw same.live taken.live;
  not_free = λ among. taken.not_free (rw same.free at among);
  within = rw same.generations taken.within;
}

vacate_keys : (s : TableState) (n : ℕ) → IsTaken s n → KeepsKeys s (vacate s n)
vacate_keys s n taken =
    let same : SameKeys s (fold hand_over s (resources_of s n)) = hand_overs_same s (resources_of s n) in
    keys_then s (fold hand_over s (resources_of s n)) (vacate s n) (same_keeps_keys s (fold hand_over s (resources_of s n)) same)
    (free_slot_keys (fold hand_over s (resources_of s n)) n (still_taken s (fold hand_over s (resources_of s n)) n same taken))

-- the process of a live key
is_taken : (s : TableState) (k : Key) → Laws s → IsTrue (is_live s k) → IsTaken s k.process
is_taken s k laws live =
    let here : slice_index_or s.live k.process false ≡ true = live_process s k live in
    record {
      live = here;
      not_free = λ among.
          let free : slice_get s.live k.process ≡ Some false
          = all_at (λ i. slice_get s.live i ≡ Some false) s.free k.process laws.lawful.well_formed.free among in
          let never : true ≡ false = sym here ∙ get_or_from_slice_get s.live k.process false false free in
          absurd (cc);
      within = omega (arith, live_within s k laws.lawful.well_formed.sizes live, laws.lawful.well_formed.sizes.generations);
    }

module _ (s : TableState) (some : length s.free ≢ 0) where
  pub begin_keys : KeepsKeys s (made_live s (slice_index s.free 0))
  begin_keys = record {
    spent = λ k spent. elim spent [
      | inl later ↦ inl later
      | inr dead ↦
          let apart : k.process ≢ slice_index s.free 0 = λ e. dead.1 (subst (λ (i : ℕ). Among i s.free) (sym e) (first_among s.free some)) in
          inr (
            get_or-set_other s.live (slice_index s.free 0) k.process true false apart ∙ dead.0,
            λ among. dead.1 (among_rest_gives s.free k.process among),
          )
    ];
    live = λ k live. inl (live_still s (slice_index s.free 0) k live);
  }

  -- the key of the first free process was not live, and is now
  begins_dead : Laws s → slice_get s.live (slice_index s.free 0) ≡ Some false
  begins_dead laws = all_at (λ i. slice_get s.live i ≡ Some false) s.free (slice_index s.free 0) laws.lawful.well_formed.free (first_among s.free some)

  pub begun_was_dead : Laws s → IsFalse (is_live s (key_of s (slice_index s.free 0)))
  begun_was_dead laws =
      let n = slice_index s.free 0 in
      and_left (slice_index_or s.live n false) (nat_eq (slice_index s.generations n) (slice_index s.generations n)) (get_or_from_slice_get s.live n false false (begins_dead laws))

  pub begun_is_live : Laws s → IsTrue (is_live (made_live s (slice_index s.free 0)) (key_of s (slice_index s.free 0)))
  begun_is_live laws =
      let n = slice_index s.free 0 in
      and_from (slice_index_or (slice_set s.live n true) n false) (nat_eq (slice_index s.generations n) (slice_index s.generations n))
      (get_or-set_same s.live n true false (slice_get_within s.live n false (begins_dead laws)))
      (eq-eqb (slice_index s.generations n) (slice_index s.generations n) refl)

-- ---- events

counting_keys : (old new : TableState) (n : ℕ) → KeepsKeys old new → KeepsKeys old (counting new n)
counting_keys old new n keeps = record { spent = keeps.spent; live = keeps.live }

outcome_keys : {A : Type 0} (old : TableState) (answer : A) (new : TableState) (tests : Tests) → (AllByRecursion (λ t. t.0 ≡ false) tests → KeepsKeys old new)
    → KeepsKeys old (outcome tests old answer new).state
outcome_keys old answer new tests after =
    outcome_keeps (λ t. KeepsKeys old t) (λ t n. counting_keys old t n) old answer new tests (same_keeps_keys old old (unchanged old)) after

gives_keys : (old new state : TableState) → new ≡ state → KeepsKeys old state → KeepsKeys old new
gives_keys old new state is keeps = rw is keeps

settled_keys : (old : TableState) (n : ℕ) → KeepsKeys old (settled old n).state
settled_keys old n = outcome_keys old (record { raises = total_raises old n; verdicts = count_by (can_detect (swept old n)) (waiting_processes (swept old n)) })
    (fold detect (swept old n) (waiting_processes (swept old n))) (settle_tests old) (λ passed. same_keeps_keys old _ (settle_same old n))

settle_keys : (old new : TableState) (reply : Result Settled Refusal) (b : Bool)
    → MatchBool b (Gives (settled old 0) reply new) ((n : ℕ) × Settles old n × Gives (settled old n) reply new) → KeepsKeys old new
settle_keys old new reply true step = gives_keys old new (settled old 0).state step.1 (settled_keys old 0)
settle_keys old new reply false (n, settles, step) = gives_keys old new (settled old n).state step.1 (settled_keys old n)

event_keys : (e : Event) (old new : TableState) (reply : Result (Answer e) Refusal) → Step e old reply new → Laws old → KeepsKeys old new
event_keys Begin old new reply step laws = gives_keys old new _ step.1
    (outcome_keys old (key_of old (slice_index old.free 0)) (made_live old (slice_index old.free 0)) (begin_tests old) (λ passed. begin_keys old (eqb-false (length old.free) 0 passed.1.0)))
event_keys (Acquire k r) old new reply step laws = gives_keys old new _ step.1
    (outcome_keys old (acquire_answer old k (owner_of old r)) (acquire_change old k r (owner_of old r)) (acquire_tests old k r)
    (λ passed. same_keeps_keys old _ (acquire_same old k r (owner_of old r))))
event_keys (Release k r) old new reply step laws = gives_keys old new _ step.1
    (outcome_keys old (release_answer (waiters_of old r)) (hand_over old r) (release_tests old k r) (λ passed. same_keeps_keys old _ (give_same old r (waiters_of old r))))
event_keys (Finish k) old new reply step laws = gives_keys old new _ step.1
    (outcome_keys old tt (vacate old k.process) (finish_tests old k) (λ passed. vacate_keys old k.process (is_taken old k laws (not-false (is_live old k) passed.1.0))))
event_keys (Transmit k) old new reply step laws = gives_keys old new _ step.1
    (outcome_keys old (option_map_or Raised (greater_label old k.process) Still) (transmit old k.process) (waiting_tests old k)
    (λ passed. same_keeps_keys old _ (transmit_same old k.process (greater_label old k.process))))
event_keys (Detect k) old new reply step laws = gives_keys old new _ step.1
    (outcome_keys old (if has_verdict old k.process then Standing else if can_detect old k.process then Deadlock (private_of old k.process) else Clear)
    (detect old k.process) (waiting_tests old k) (λ passed. same_keeps_keys old _ (detect_same old k.process (can_detect old k.process))))
event_keys (Abort k) old new reply step laws = gives_keys old new _ step.1
    (outcome_keys old tt (abort old k.process) (abort_tests old k) (λ passed.
    let taken : IsTaken old k.process = is_taken old k laws (not-false (is_live old k) passed.1.0) in
    let same : SameKeys old (take_back old k.process) = record { generations = refl; live = refl; free = refl } in
    keys_then old (take_back old k.process) (abort old k.process) (same_keeps_keys old (take_back old k.process) same)
    (vacate_keys (take_back old k.process) k.process (still_taken old (take_back old k.process) k.process same taken))))
event_keys Settle old new reply step laws = settle_keys old new reply (counts_exhausted old) step
event_keys (GiveUp k) old new reply step laws = gives_keys old new _ step.1
    (outcome_keys old tt (activate old k.process) (give_up_tests old k) (λ passed. same_keeps_keys old _ (record { generations = refl; live = refl; free = refl })))

run_keys : (es : List Event) (old new : TableState) → Run old es new → Laws old → KeepsKeys old new
run_keys [] old new same laws = rw same (same_keeps_keys old old (unchanged old))
run_keys (e ∷ es) old new (mid, reply, step, rest) laws =
    keys_then old mid new (event_keys e old mid reply step laws) (run_keys es mid new rest (event_keeps e old mid reply step laws).laws)

-- ---- the laws of keys

pub keys_never_return : (e : Event) (old mid new : TableState) (reply : Result (Answer e) Refusal) (es : List Event) → Step e old reply mid → Run mid es new → Laws old
    → (k : Key) → IsTrue (is_live old k) → IsFalse (is_live mid k) → IsFalse (is_live new k)
keys_never_return e old mid new reply es step run laws k live dead = elim ((event_keys e old mid reply step laws).live k live) [
  | inl still ↦ (let never : false ≡ true = sym dead ∙ still in absurd (cc))
  | inr spent ↦ spent_is_dead new k ((run_keys es mid new run (event_keeps e old mid reply step laws).laws).spent k spent)
]

fresh_by : (s new : TableState) (k : Key) → Laws s → (r : Result (Unit {0}) Refusal) → allowed (begin_tests s) ≡ r
    → Gives (decided r s (key_of s (slice_index s.free 0)) (made_live s (slice_index s.free 0))) (Ok k) new → IsFalse (is_live s k) × IsTrue (is_live new k)
fresh_by s new k laws (Err refusal) allowed gives = (let never : Ok k ≡ Err refusal = gives.0 in absurd (cc))
fresh_by s new k laws (Ok u) allowed gives =
    let reply : Ok k ≡ Ok (key_of s (slice_index s.free 0)) = gives.0 in
    let key : k ≡ key_of s (slice_index s.free 0) = cc in
    let some : length s.free ≢ 0 = eqb-false (length s.free) 0 (tests_false (begin_tests s) allowed).1.0 in
    rw (key, gives.1) (begun_was_dead s some laws, begun_is_live s some laws)

pub keys_are_fresh : (old new : TableState) (k : Key) → Step Begin old (Ok k) new → Laws old → IsFalse (is_live old k) × IsTrue (is_live new k)
keys_are_fresh old new k step laws = fresh_by old new k laws (allowed (begin_tests old)) refl step
