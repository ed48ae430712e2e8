-- No event changes the configuration.
use Rattle.std.proofs.Common.{◌≡◌, ◌+◌, ◌∷◌, [], ℕ, List, Bool, true, false, Option, Some, None, Result, Ok, Err, MatchBool, fold, slice_index, slice_set, nat_lt, if◌then◌else◌, refl, ap, ◌∙◌}
use Rattle.std.specs.Option.{option_map_or}
use Rattle.mm_label.specs.Label.{Label}
use Rattle.mm_arena.specs.declared.key.Key.{Key}
use Rattle.mm_rules.specs.declared.refusal.Refusal.{Refusal}
use Rattle.mm_rules.specs.declared.reply.Settled.{Settled}
use Rattle.mm_rules.specs.TableState.{TableState, Wait, owner_of, waiters_of, resources_of, waiting_processes}
use Rattle.mm_rules.specs.Change.{block, activate, give_to, hand_over, free_slot, vacate, take_back, greater_label, transmit, can_detect, detect, swept}
use Rattle.mm_rules.specs.Event.{Event, Begin, Acquire, Release, Finish, Transmit, Detect, Abort, Settle, GiveUp, Answer, Step, Gives, decided, acquire_change, Settles, settled, counts_exhausted}
use Rattle.mm_rules.proofs.States.Transmit.{shown}
use Rattle.mm_rules.proofs.States.Sweep.{swept_same_waits}

decided_config : {A : Type 0} (r : Result (Unit {0}) Refusal) (old new : TableState) (answer : A) → new.config ≡ old.config → (decided r old answer new).state.config ≡ old.config
decided_config (Err refusal) old new answer kept = refl
decided_config (Ok u) old new answer kept = kept

-- ---- each change

acquire_config : (s : TableState) (k : Key) (r : ℕ) (o : Option Key) → (acquire_change s k r o).config ≡ s.config
acquire_config s k r None = refl
acquire_config s k r (Some h) = refl

blocks_config : (s : TableState) (h : ℕ) (ws : List Wait) → (fold (λ t w. block t w.key.process h) s ws).config ≡ s.config
blocks_config s h [] = refl
blocks_config s h (w ∷ ws) = blocks_config (block s w.key.process h) h ws

give_to_config : (s : TableState) (r : ℕ) (ws : List Wait) → (give_to s r ws).config ≡ s.config
give_to_config s r [] = refl
give_to_config s r (first ∷ others) =
    blocks_config (activate (record s { owners = slice_set s.owners r (Some first.key) }) first.key.process) first.key.process others

hand_overs_config : (s : TableState) (rs : List ℕ) → (fold hand_over s rs).config ≡ s.config
hand_overs_config s [] = refl
hand_overs_config s (r ∷ rs) = hand_overs_config (hand_over s r) rs ∙ give_to_config s r (waiters_of s r)

free_slot_config : (s : TableState) (n : ℕ) → (free_slot s n).config ≡ s.config
free_slot_config s n = by (nat_lt (slice_index s.generations n) s.config.generation_limit)
  where
    by : (b : Bool) → (if b then record (record s { live = slice_set s.live n false }) { generations = slice_set s.generations n (slice_index s.generations n + 1); free = n ∷ s.free } else record s { live = slice_set s.live n false }).config ≡ s.config
    by true = refl
    by false = refl

vacate_config : (s : TableState) (n : ℕ) → (vacate s n).config ≡ s.config
vacate_config s n = free_slot_config (fold hand_over s (resources_of s n)) n ∙ hand_overs_config s (resources_of s n)

transmit_config : (s : TableState) (n : ℕ) → (transmit s n).config ≡ s.config
transmit_config s n = by (greater_label s n)
  where
    by : (o : Option Label) → (option_map_or (shown s n) o s).config ≡ s.config
    by None = refl
    by (Some l) = refl

detect_config : (s : TableState) (n : ℕ) → (detect s n).config ≡ s.config
detect_config s n = by (can_detect s n)
  where
    by : (b : Bool) → (if b then record s { verdicts = slice_set s.verdicts n true; totals = record s.totals { verdicts = s.totals.verdicts + 1 } } else s).config ≡ s.config
    by true = refl
    by false = refl

detects_config : (s : TableState) (ns : List ℕ) → (fold detect s ns).config ≡ s.config
detects_config s [] = refl
detects_config s (n ∷ ns) = detects_config (detect s n) ns ∙ detect_config s n

settled_config : (s : TableState) (n : ℕ) → (settled s n).state.config ≡ s.config
settled_config s n = decided_config _ s _ _ (detects_config (swept s n) (waiting_processes (swept s n)) ∙ (swept_same_waits s n).config)

settle_config : (old new : TableState) (reply : Result Settled Refusal) (b : Bool)
    → MatchBool b (Gives (settled old 0) reply new) ((n : ℕ) × Settles old n × Gives (settled old n) reply new) → new.config ≡ old.config
settle_config old new reply true step = ap (λ s. s.config) step.1 ∙ settled_config old 0
settle_config old new reply false (n, settles, step) = ap (λ s. s.config) step.1 ∙ settled_config old n

-- ---- each event

pub event_config : (e : Event) (old new : TableState) (reply : Result (Answer e) Refusal) → Step e old reply new → new.config ≡ old.config
event_config Begin old new reply step = ap (λ s. s.config) step.1 ∙ decided_config _ old _ _ refl
event_config (Acquire k r) old new reply step = ap (λ s. s.config) step.1 ∙ decided_config _ old _ _ (acquire_config old k r (owner_of old r))
event_config (Release k r) old new reply step = ap (λ s. s.config) step.1 ∙ decided_config _ old _ _ (give_to_config old r (waiters_of old r))
event_config (Finish k) old new reply step = ap (λ s. s.config) step.1 ∙ decided_config _ old _ _ (vacate_config old k.process)
event_config (Transmit k) old new reply step = ap (λ s. s.config) step.1 ∙ decided_config _ old _ _ (transmit_config old k.process)
event_config (Detect k) old new reply step = ap (λ s. s.config) step.1 ∙ decided_config _ old _ _ (detect_config old k.process)
event_config (Abort k) old new reply step = ap (λ s. s.config) step.1 ∙ decided_config _ old _ _ (vacate_config (take_back old k.process) k.process)
event_config Settle old new reply step = settle_config old new reply (counts_exhausted old) step
event_config (GiveUp k) old new reply step = ap (λ s. s.config) step.1 ∙ decided_config _ old _ _ refl
