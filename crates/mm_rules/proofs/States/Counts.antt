-- What each event adds to the three counts.
use Rattle.std.proofs.Common.{◌≡◌, ◌≢◌, ◌+◌, ◌&&◌, ℕ, Bool, true, false, not, cond, if◌then◌else◌, List, [], ◌∷◌, fold, count_by, Option, Some, None, Result, Ok, Err, MatchBool, inl, inr, refl, ap, ◌∙◌, arith, get_or-set_other}
use Rattle.std.specs.Option.{option_map_or}
use Rattle.std.proofs.lemmas.Bool.{cases_Bool}
use Rattle.std.proofs.lemmas.List.Sums.{sum_by-cons}
use Rattle.mm_label.specs.Label.{label_eq}
use Rattle.mm_arena.specs.declared.key.Key.{Key}
use Rattle.mm_rules.specs.declared.refusal.Refusal.{Refusal}
use Rattle.mm_rules.specs.declared.reply.Detected.TheVariants.{Deadlock, Standing, Clear}
use Rattle.mm_rules.specs.declared.reply.Settled.{Settled}
use Rattle.mm_rules.specs.TableState.{TableState, private_of, public_of, has_verdict, holder_of, owner_of, is_waiting, waiting_processes}
use Rattle.mm_rules.specs.Change.{take_back, can_detect, detect, swept}
use Rattle.mm_rules.specs.Event.{Event, Begin, Acquire, Release, Finish, Transmit, Detect, Abort, Settle, GiveUp, Answer, Outcome, Gives, Settles, decided, settled, acquire_change, counts_exhausted}
use Rattle.mm_rules.specs.Laws.{verdicts_made, aborts_made, Counts, CountsAreExact}
use Rattle.mm_lists.specs.Members.{Among, NoRepeat}
use Rattle.mm_lists.proofs.Lemmas.Range.{no_repeat_filter_range}
use Rattle.mm_rules.proofs.States.Detect.{convicted, detect_still, detect_convicts}
use Rattle.mm_rules.proofs.States.Totals.{hand_over_totals, vacate_totals, transmit_totals, swept_totals, detects_accepted, detects_aborts}

-- ---- the verdicts of several detects

convicted_apart : (s : TableState) (n k : ℕ) → k ≢ n → can_detect (convicted s n) k ≡ can_detect s k
convicted_apart s n k apart =
    ap (λ (v : Bool). not v && label_eq (private_of s k) (public_of s k) && option_map_or (λ h. label_eq (public_of s k) (public_of s h)) (holder_of s k) false)
    (get_or-set_other s.verdicts n k true false apart)

-- a detect of n leaves whether another process can detect
pub detect_apart : (s : TableState) (n k : ℕ) → k ≢ n → can_detect (detect s n) k ≡ can_detect s k
detect_apart s n k apart = elim (cases_Bool (can_detect s n)) [
  | inl can ↦ ap (λ (t : TableState). can_detect t k) (detect_convicts s n can) ∙ convicted_apart s n k apart
  | inr no_detect ↦ ap (λ (t : TableState). can_detect t k) (detect_still s n no_detect)
]

pub verdicts_after : (s : TableState) (n : ℕ) → (detect s n).totals.verdicts ≡ s.totals.verdicts + (if can_detect s n then 1 else 0)
verdicts_after s n = elim (cases_Bool (can_detect s n)) [
  | inl can ↦ rw can refl
  | inr no_detect ↦ rw no_detect (omega arith)
]

pub count_same : (p q : ℕ → Bool) (ns : List ℕ) → ((k : ℕ) → Among k ns → p k ≡ q k) → count_by p ns ≡ count_by q ns
count_same p q [] same = refl
count_same p q (n ∷ ns) same =
    let one : Bool → ℕ = λ b. cond b 1 0 in
    let rest = count_same p q ns (λ k later. same k (inr later)) in
    omega (arith, sum_by-cons (λ m. cond (p m) 1 0) n ns, sum_by-cons (λ m. cond (q m) 1 0) n ns, ap one (same n (inl refl)), rest)

-- detects of processes that differ give as many verdicts as there are of them that can detect at first
detects_verdicts : (s : TableState) (ns : List ℕ) → NoRepeat ns → (fold detect s ns).totals.verdicts ≡ s.totals.verdicts + count_by (can_detect s) ns
detects_verdicts s [] once = omega arith
detects_verdicts s (n ∷ ns) once =
    let rest = detects_verdicts (detect s n) ns once.1 in
    let same = count_same (can_detect (detect s n)) (can_detect s) ns (λ k later. detect_apart s n k (λ e. once.0 (rw e at later))) in
    omega (arith, rest, same, verdicts_after s n, sum_by-cons (λ m. cond (can_detect s m) 1 0) n ns)

-- ---- what a change adds, before the event itself is counted

pub record Adds (old new : TableState) (v a : ℕ) : Type 0 where
  accepted : new.totals.accepted ≡ old.totals.accepted
  verdicts : new.totals.verdicts ≡ old.totals.verdicts + v
  aborts : new.totals.aborts ≡ old.totals.aborts + a

pub adds_nothing : (old new : TableState) → new.totals ≡ old.totals → Adds old new 0 0
adds_nothing old new same = record {
  accepted = ap (λ t. t.accepted) same;
  verdicts = omega (arith, ap (λ t. t.verdicts) same);
  aborts = omega (arith, ap (λ t. t.aborts) same);
}

acquire_adds : (s : TableState) (k : Key) (r : ℕ) (o : Option Key) → (acquire_change s k r o).totals ≡ s.totals
acquire_adds s k r None = refl
acquire_adds s k r (Some h) = refl

detect_adds : (s : TableState) (k : Key) (standing can : Bool) → (standing ≡ true → can ≡ false)
    → Adds s (if can then convicted s k.process else s) (verdicts_made (Detect k) (if standing then Standing else if can then Deadlock (private_of s k.process) else Clear)) 0
detect_adds s k true true never = absurd (let no : true ≡ false = never refl in cc)
detect_adds s k true false never = adds_nothing s s refl
detect_adds s k false true never = record { accepted = refl; verdicts = refl; aborts = omega arith }
detect_adds s k false false never = adds_nothing s s refl

standing_detects_not : (s : TableState) (n : ℕ) → has_verdict s n ≡ true → can_detect s n ≡ false
standing_detects_not s n standing = fails (has_verdict s n) _ _ standing
  where
    fails : (v a b : Bool) → v ≡ true → (not v && a && b) ≡ false
    fails false a b given = absurd (cc)
    fails true true true given = refl
    fails true true false given = refl
    fails true false true given = refl
    fails true false false given = refl

settle_adds : (s : TableState) (n : ℕ) → Adds s (fold detect (swept s n) (waiting_processes (swept s n))) (count_by (can_detect (swept s n)) (waiting_processes (swept s n))) 0
settle_adds s n =
    let t = swept s n in
    let same = swept_totals s n in
    record {
      accepted = detects_accepted t (waiting_processes t) ∙ ap (λ c. c.accepted) same;
      verdicts = detects_verdicts t (waiting_processes t) (no_repeat_filter_range (is_waiting t) 0 t.config.processes) ∙ ap (λ c. c.verdicts + count_by (can_detect t) (waiting_processes t)) same;
      aborts = omega (arith, detects_aborts t (waiting_processes t), ap (λ c. c.aborts) same);
    }

-- ---- events

pub decided_counts : (e : Event) (old : TableState) (answer : Answer e) (new : TableState) (r : Result (Unit {0}) Refusal)
    → Adds old new (verdicts_made e answer) (aborts_made e) → Counts e (decided r old answer new).reply old.totals (decided r old answer new).state.totals
decided_counts e old answer new (Err refusal) adds = refl
decided_counts e old answer new (Ok u) adds = (ap (λ n. n + 1) adds.accepted, adds.verdicts, adds.aborts)

pub gives_counts : (e : Event) (old new : TableState) (reply : Result (Answer e) Refusal) (o : Outcome (Answer e)) → Gives o reply new → Counts e o.reply old.totals o.state.totals
    → Counts e reply old.totals new.totals
gives_counts e old new reply o gives counts = rw (gives.0, gives.1) counts

settled_counts : (old : TableState) (n : ℕ) → Counts Settle (settled old n).reply old.totals (settled old n).state.totals
settled_counts old n = decided_counts Settle old _ _ _ (settle_adds old n)

settle_counts : (old new : TableState) (reply : Result Settled Refusal) (b : Bool)
    → MatchBool b (Gives (settled old 0) reply new) ((n : ℕ) × Settles old n × Gives (settled old n) reply new) → Counts Settle reply old.totals new.totals
settle_counts old new reply true step = gives_counts Settle old new reply (settled old 0) step (settled_counts old 0)
settle_counts old new reply false (n, settles, step) = gives_counts Settle old new reply (settled old n) step (settled_counts old n)

pub event_counts : CountsAreExact
event_counts Begin old new reply step = gives_counts Begin old new reply _ step (decided_counts Begin old _ _ _ (adds_nothing old _ refl))
event_counts (Acquire k r) old new reply step =
    gives_counts (Acquire k r) old new reply _ step (decided_counts (Acquire k r) old _ _ _ (adds_nothing old _ (acquire_adds old k r (owner_of old r))))
event_counts (Release k r) old new reply step =
    gives_counts (Release k r) old new reply _ step (decided_counts (Release k r) old _ _ _ (adds_nothing old _ (hand_over_totals old r)))
event_counts (Finish k) old new reply step =
    gives_counts (Finish k) old new reply _ step (decided_counts (Finish k) old _ _ _ (adds_nothing old _ (vacate_totals old k.process)))
event_counts (Transmit k) old new reply step =
    gives_counts (Transmit k) old new reply _ step (decided_counts (Transmit k) old _ _ _ (adds_nothing old _ (transmit_totals old k.process)))
event_counts (Detect k) old new reply step =
    gives_counts (Detect k) old new reply _ step
    (decided_counts (Detect k) old _ _ _ (detect_adds old k (has_verdict old k.process) (can_detect old k.process) (standing_detects_not old k.process)))
event_counts (Abort k) old new reply step =
    let same = vacate_totals (take_back old k.process) k.process in
    gives_counts (Abort k) old new reply _ step (decided_counts (Abort k) old _ _ _ (record {
      accepted = ap (λ t. t.accepted) same;
      verdicts = omega (arith, ap (λ t. t.verdicts) same);
      aborts = ap (λ t. t.aborts) same;
    }))
event_counts Settle old new reply step = settle_counts old new reply (counts_exhausted old) step
event_counts (GiveUp k) old new reply step = gives_counts (GiveUp k) old new reply _ step (decided_counts (GiveUp k) old _ _ _ (adds_nothing old _ refl))
