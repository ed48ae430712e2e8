-- The events of a table: their refusals, replies and new states; steps, and runs of them.
use Rattle.std.specs.Prelude.{◌≡◌, ℕ, ◌+◌, ◌^◌, ◌<◌, Bool, true, false, not, List, [], ◌∷◌, ◌++◌, Option, Some, None, Result, Ok, Err, ◌||◌, if◌then◌else◌, length, fold, drop, count_by, nat_eq, nat_le, nat_lt, slice_index, slice_index_or, slice_set, MatchBool, ◌⊎◌}
use Rattle.std.specs.Option.{option_map_or}
use Rattle.mm_label.specs.Label.{label_eq}
use Rattle.mm_rules.specs.declared.config.Config.{Config}
use Rattle.mm_arena.specs.declared.key.Key.{Key}
use Rattle.mm_rules.specs.declared.refusal.Refusal.{Refusal}
use Rattle.mm_rules.specs.declared.refusal.Refusal.TheVariants.{Stale, NoResource, Waiting, AlreadyOwns, NotOwner, Full, LabelsExhausted, NotWaiting, NoVerdict, Memory, BadConfig, Carried, UnderVerdict, CountsExhausted}
use Rattle.mm_rules.specs.declared.reply.Acquired.{Acquired}
use Rattle.mm_rules.specs.declared.reply.Acquired.TheVariants.{Granted, Waits}
use Rattle.mm_rules.specs.declared.reply.Released.{Released}
use Rattle.mm_rules.specs.declared.reply.Released.TheVariants.{Free, To}
use Rattle.mm_rules.specs.declared.reply.Transmitted.{Transmitted}
use Rattle.mm_rules.specs.declared.reply.Transmitted.TheVariants.{Raised, Still}
use Rattle.mm_rules.specs.declared.reply.Detected.{Detected}
use Rattle.mm_rules.specs.declared.reply.Detected.TheVariants.{Deadlock, Standing, Clear}
use Rattle.mm_rules.specs.declared.reply.Settled.{Settled}
use Rattle.mm_rules.specs.declared.reply.State.{State}
use Rattle.mm_rules.specs.declared.reply.Mode.{Mode}
use Rattle.mm_rules.specs.declared.reply.Mode.TheVariants as mode
use Rattle.mm_rules.specs.TableState.{TableState, Wait, IsInRange, IsWide, opening, key_of, is_live, private_of, public_of, has_verdict, owner_of, owns, wait_of, is_waiting, waiting_processes, waiters_of}
use Rattle.mm_rules.specs.Change.{label_against, block, activate, hand_over, vacate, abort, greater_label, transmit, can_detect, detect, sweep_raises, swept, total_raises, block_fits, hand_over_fits, vacate_fits}

-- ---- refusals

-- what a call is refused for, in the order of the tests
abbrev pub Tests : Type 0
Tests = List (Bool × Refusal)

-- the refusal of the first test that is true, if there is one
abbrev pub allowed : Tests → Result (Unit {0}) Refusal
allowed [] = Ok tt
allowed ((true, refusal) ∷ tests) = Err refusal
allowed ((false, refusal) ∷ tests) = allowed tests

-- the accepted or the verdict count is at its limit
abbrev pub counts_exhausted : TableState → Bool
counts_exhausted s = nat_le (2 ^ 62) s.totals.accepted || nat_le (2 ^ 62) s.totals.verdicts

abbrev pub settle_tests : TableState → Tests
settle_tests s = (counts_exhausted s, CountsExhausted) ∷ []

abbrev pub begin_tests : TableState → Tests
begin_tests s = (counts_exhausted s, CountsExhausted) ∷ (nat_eq (length s.free) 0, Full) ∷ []

-- the tests of every call with a key
abbrev pub key_tests : TableState → Key → Tests
key_tests s k = (counts_exhausted s, CountsExhausted) ∷ (not (is_live s k), Stale) ∷ []

-- those of a call that only an active transaction may make of a resource
abbrev pub resource_tests : TableState → Key → ℕ → Tests
resource_tests s k r = key_tests s k ++ (nat_le s.config.resources r, NoResource) ∷ (is_waiting s k.process, Waiting) ∷ []

abbrev pub acquire_tests : TableState → Key → ℕ → Tests
acquire_tests s k r =
    resource_tests s k r ++ (owns s k.process r, AlreadyOwns)
    ∷ (option_map_or (λ h. not (block_fits s k.process h.process)) (owner_of s r) false, LabelsExhausted) ∷ []

abbrev pub release_tests : TableState → Key → ℕ → Tests
release_tests s k r = resource_tests s k r ++ (not (owns s k.process r), NotOwner) ∷ (not (hand_over_fits s r), LabelsExhausted) ∷ []

abbrev pub finish_tests : TableState → Key → Tests
finish_tests s k = key_tests s k ++ (is_waiting s k.process, Waiting) ∷ (not (vacate_fits s k.process), LabelsExhausted) ∷ []

-- those of a call that only a waiting transaction may make
abbrev pub waiting_tests : TableState → Key → Tests
waiting_tests s k = key_tests s k ++ (not (is_waiting s k.process), NotWaiting) ∷ []

abbrev pub abort_tests : TableState → Key → Tests
abort_tests s k = key_tests s k ++ (not (has_verdict s k.process), NoVerdict) ∷ (not (vacate_fits s k.process), LabelsExhausted) ∷ []

abbrev pub give_up_tests : TableState → Key → Tests
give_up_tests s k =
    waiting_tests s k ++ (has_verdict s k.process, UnderVerdict) ∷ (not (label_eq (private_of s k.process) (public_of s k.process)), Carried) ∷ []

-- ---- replies and new states

-- what a call answers, and the state after it
pub record Outcome (A : Type 0) : Type 0 where
  pub reply : Result A Refusal
  pub state : TableState

-- a refused call changes nothing; an accepted one is counted
abbrev pub decided : {A : Type 0} → Result (Unit {0}) Refusal → TableState → A → TableState → Outcome A
decided (Err refusal) old answer new = record { reply = Err refusal; state = old }
decided (Ok _) old answer new = record { reply = Ok answer; state = record new { totals = record new.totals { accepted = new.totals.accepted + 1 } } }

abbrev pub outcome : {A : Type 0} → Tests → TableState → A → TableState → Outcome A
outcome tests old answer new = decided (allowed tests) old answer new

-- begin: the first free process gets a live key; its labels stay
abbrev pub begun : TableState → Outcome Key
begun s =
    let n = slice_index s.free 0 in
    outcome (begin_tests s) s (key_of s n) (record s { free = drop 1 s.free; live = slice_set s.live n true })

-- acquire: a resource without owner is granted; for an owned one k waits, last in its queue, and is blocked on the owner
abbrev pub acquire_answer : TableState → Key → Option Key → Acquired
acquire_answer s k None = Granted
acquire_answer s k (Some h) = Waits h (label_against s k.process h.process)

abbrev pub acquire_change : TableState → Key → ℕ → Option Key → TableState
acquire_change s k r None = record s { owners = slice_set s.owners r (Some k) }
acquire_change s k r (Some h) = block (record s { waits = s.waits ++ record { key = k; resource = r } ∷ [] }) k.process h.process

abbrev pub acquired : TableState → Key → ℕ → Outcome Acquired
acquired s k r = outcome (acquire_tests s k r) s (acquire_answer s k (owner_of s r)) (acquire_change s k r (owner_of s r))

-- release: the resource is handed over
abbrev pub release_answer : List Wait → Released
release_answer [] = Free
release_answer (first ∷ others) = To first.key

abbrev pub released : TableState → Key → ℕ → Outcome Released
released s k r = outcome (release_tests s k r) s (release_answer (waiters_of s r)) (hand_over s r)

abbrev pub finished : TableState → Key → Outcome (Unit {0})
finished s k = outcome (finish_tests s k) s tt (vacate s k.process)

abbrev pub transmitted : TableState → Key → Outcome Transmitted
transmitted s k = outcome (waiting_tests s k) s (option_map_or Raised (greater_label s k.process) Still) (transmit s k.process)

abbrev pub detected : TableState → Key → Outcome Detected
detected s k =
    outcome (waiting_tests s k) s
    (if has_verdict s k.process then Standing else if can_detect s k.process then Deadlock (private_of s k.process) else Clear) (detect s k.process)

abbrev pub aborted : TableState → Key → Outcome (Unit {0})
aborted s k = outcome (abort_tests s k) s tt (abort s k.process)

-- give up: a waiting transaction without a verdict, whose two labels are equal, waits no longer
abbrev pub given_up : TableState → Key → Outcome (Unit {0})
given_up s k = outcome (give_up_tests s k) s tt (activate s k.process)

-- settle, after n sweeps: each waiting process then detects if it can
abbrev pub settled : TableState → ℕ → Outcome Settled
settled s n =
    let t = swept s n in
    outcome (settle_tests s) s
    (record { raises = total_raises s n; verdicts = count_by (can_detect t) (waiting_processes t) }) (fold detect t (waiting_processes t))

-- n is the first number of sweeps after which one more raises nothing
pub record Settles (s : TableState) (n : ℕ) : Type 0 where
  pub still : sweep_raises (swept s n) ≡ 0
  pub first : (m : ℕ) → m < n → 0 < sweep_raises (swept s m)

-- ---- steps and runs

pub data Event : Type 0 where
  Begin : Event
  Acquire : (key : Key) → (resource : ℕ) → Event
  Release : (key : Key) → (resource : ℕ) → Event
  Finish : (key : Key) → Event
  Transmit : (key : Key) → Event
  Detect : (key : Key) → Event
  Abort : (key : Key) → Event
  Settle : Event
  GiveUp : (key : Key) → Event

-- what each event answers if it is accepted
abbrev pub Answer : Event → Type 0
Answer Begin = Key
Answer (Acquire k r) = Acquired
Answer (Release k r) = Released
Answer (Finish k) = Unit {0}
Answer (Transmit k) = Transmitted
Answer (Detect k) = Detected
Answer (Abort k) = Unit {0}
Answer Settle = Settled
Answer (GiveUp k) = Unit {0}

abbrev pub Gives : {A : Type 0} → Outcome A → Result A Refusal → TableState → Type 0
Gives o reply new = (reply ≡ o.reply) × (new ≡ o.state)

-- the event gives this reply and this new state
abbrev pub Step : (e : Event) → TableState → Result (Answer e) Refusal → TableState → Type 0
Step Begin old reply new = Gives (begun old) reply new
Step (Acquire k r) old reply new = Gives (acquired old k r) reply new
Step (Release k r) old reply new = Gives (released old k r) reply new
Step (Finish k) old reply new = Gives (finished old k) reply new
Step (Transmit k) old reply new = Gives (transmitted old k) reply new
Step (Detect k) old reply new = Gives (detected old k) reply new
Step (Abort k) old reply new = Gives (aborted old k) reply new
Step (GiveUp k) old reply new = Gives (given_up old k) reply new
Step Settle old reply new = MatchBool (counts_exhausted old) (Gives (settled old 0) reply new) ((n : ℕ) × Settles old n × Gives (settled old n) reply new)

-- the events lead from one state to another, step by step
abbrev pub Run : TableState → List Event → TableState → Type 0
Run old [] new = new ≡ old
Run old (e ∷ es) new = (mid : TableState) × (reply : Result (Answer e) Refusal) × Step e old reply mid × Run mid es new

-- some events lead from the opening to this state
abbrev pub IsReached : Config → TableState → Type 0
IsReached c s = (es : List Event) × Run (opening c) es s

-- ---- opening and reads

-- `open` is refused for a number out of range, and else only for want of memory; it gives the opening of the configuration.
-- When `Memory` comes is left open: only if a request for memory was refused, which no clause can say.
abbrev pub Opens : Config → Result TableState Refusal → Type 0
Opens c (Ok s) = IsInRange c × (s ≡ opening c)
Opens c (Err e) = ((e ≡ BadConfig) × ¬ IsInRange c) ⊎ ((e ≡ Memory) × IsInRange c)

-- so it is with a wide opening, whose range is wider
abbrev pub OpensWide : Config → Result TableState Refusal → Type 0
OpensWide c (Ok s) = IsWide c × (s ≡ opening c)
OpensWide c (Err e) = ((e ≡ BadConfig) × ¬ IsWide c) ⊎ ((e ≡ Memory) × IsWide c)

-- the mode of a transaction by what it waits for, if anything, and whether it has a verdict
abbrev pub mode_of : Option ℕ → Bool → Mode
mode_of None verdict = mode.Active
mode_of (Some r) true = mode.Convicted r
mode_of (Some r) false = mode.Waiting r

-- what `state` answers
abbrev pub state_of : TableState → Key → Result State Refusal
state_of s k =
    if is_live s k
    then Ok (record { mode = mode_of (wait_of s k.process) (has_verdict s k.process); private = private_of s k.process; public = public_of s k.process })
    else Err Stale

-- what `owner` answers
abbrev pub owner_told : TableState → ℕ → Result (Option Key) Refusal
owner_told s r = if nat_lt r s.config.resources then Ok (owner_of s r) else Err NoResource

-- what `tenant` answers: the live key of process n
abbrev pub tenant_of : TableState → ℕ → Option Key
tenant_of s n = if slice_index_or s.live n false then Some (key_of s n) else None
