-- What holds of every state that is reached.
use Rattle.std.specs.Prelude.{◌≡◌, ◌≢◌, ℕ, ◌+◌, ◌*◌, ◌<◌, ◌≤◌, false, ⊤, List, [], ◌∷◌, length, map, Some, MatchOption, Result, Ok, Err, IsTrue, IsFalse, count_by, slice_get}
use Rattle.std.specs.List.{AllByRecursion}
use Rattle.mm_label.specs.Label.{label_le, label_lt, word_of}
use Rattle.mm_rules.specs.declared.config.Config.{Config}
use Rattle.mm_arena.specs.declared.key.Key.{Key}
use Rattle.mm_rules.specs.declared.refusal.Refusal.{Refusal}
use Rattle.mm_rules.specs.declared.reply.Detected.TheVariants.{Deadlock}
use Rattle.mm_rules.specs.declared.reply.Settled.{Settled}
use Rattle.mm_rules.specs.declared.reply.Totals.{Totals}
use Rattle.mm_rules.specs.declared.reply.Transmitted.TheVariants.{Raised}
use Rattle.mm_rules.specs.TableState.{TableState, Wait, IsWide, IsSized, opening, is_live, private_of, public_of, has_verdict, owner_of, is_waiting, waiting_processes, graph_of}
use Rattle.mm_rules.specs.Event.{Event, Begin, Transmit, Detect, Abort, Settle, Answer, Step, Run, IsReached, Settles}
use Rattle.mm_lists.specs.Members.{Among, NoRepeat}
use Rattle.mm_rules.specs.Graph.{Cycle, LabelReturned, Deadlocked, IsGreatest, PropagatedLaw, RisingLaw, ToppedLaw, IsSettled}

-- ---- lawful

-- another process owns what w waits for
abbrev pub IsHeld : TableState → Wait → Type 0
IsHeld s w = MatchOption (owner_of s w.resource) ⊥ (λ k. k.process ≢ w.key.process)

-- sizes and numbers fit the configuration; owners, waits and verdicts name live keys, and free processes have none
pub record WellFormed (s : TableState) : Type 0 where
  pub config : IsWide s.config
  pub sizes : IsSized s
  pub owners : (r : ℕ) (k : Key) → owner_of s r ≡ Some k → IsTrue (is_live s k)
  pub waits : AllByRecursion (λ w. IsTrue (is_live s w.key) × IsHeld s w) s.waits
  pub waits_once : NoRepeat (map (λ w. w.key.process) s.waits)
  pub verdicts : (n : ℕ) → IsTrue (has_verdict s n) → IsTrue (is_waiting s n)
  pub free : AllByRecursion (λ n. slice_get s.live n ≡ Some false) s.free
  pub free_once : NoRepeat s.free

-- a private label is its own process's, so private labels are distinct, and it is at most the public one
pub record PrivateLabels (s : TableState) : Type 0 where
  pub own : (n : ℕ) → (private_of s n).process ≡ n
  pub at_most_public : (n : ℕ) → IsTrue (label_le (private_of s n) (public_of s n))

-- no label of process n is above n's private one, and none is above the limit
pub record LabelBounds (s : TableState) : Type 0 where
  pub made : (m : ℕ) → m < s.config.processes → (public_of s m).process < s.config.processes
  pub newest : (n m : ℕ) → (public_of s m).process ≡ n → (public_of s m).counter ≤ (private_of s n).counter
  pub limit : (m : ℕ) → (public_of s m).counter ≤ s.config.label_limit

pub record Lawful (s : TableState) : Type 0 where
  pub well_formed : WellFormed s
  pub private_labels : PrivateLabels s
  pub label_bounds : LabelBounds s
  pub propagated : PropagatedLaw (graph_of s)
  pub rising : RisingLaw (graph_of s)
  pub counted : s.totals.verdicts ≡ s.totals.aborts + count_by (λ v. v) s.verdicts

-- ---- sound verdicts, and none missed

-- each process with a verdict waits, its label has come round to its holder, and its private label is the greatest of a cycle that it is on
abbrev pub ConvictedLawfully : TableState → Type 0
ConvictedLawfully s = (v : ℕ) → IsTrue (has_verdict s v) → (h : ℕ) × LabelReturned (graph_of s) v h × Deadlocked (graph_of s) v

abbrev pub AllTopped : TableState → Type 0
AllTopped s = ToppedLaw (graph_of s)

pub record Laws (s : TableState) : Type 0 where
  pub lawful : Lawful s
  pub convicted : ConvictedLawfully s
  pub topped : AllTopped s

-- ---- quiet, and at rest

-- wherever a process can be convicted, it has a verdict already
abbrev pub NoneToDetect : TableState → Type 0
NoneToDetect s = (v h : ℕ) → LabelReturned (graph_of s) v h → IsTrue (has_verdict s v)

-- nothing to transmit, nothing to detect, no verdict
pub record Quiet (s : TableState) : Type 0 where
  pub transmitted : IsSettled (graph_of s)
  pub detected : NoneToDetect s
  pub no_verdict : (n : ℕ) → IsFalse (has_verdict s n)

-- one process of the cycle has a verdict, and its private label is greater than every other one on it
pub record HasOneVerdict (s : TableState) (cycle : List ℕ) : Type 0 where
  pub victim : ℕ
  pub on_cycle : Among victim cycle
  pub verdict : IsTrue (has_verdict s victim)
  pub only : (k : ℕ) → Among k cycle → IsTrue (has_verdict s k) → k ≡ victim
  pub greatest : (k : ℕ) → Among k cycle → k ≢ victim → (graph_of s).private k < (graph_of s).private victim

-- nothing to transmit, nothing to detect, and one verdict on each cycle
pub record AtRest (s : TableState) : Type 0 where
  pub transmitted : IsSettled (graph_of s)
  pub detected : NoneToDetect s
  pub cycles : (k : ℕ) (cycle : List ℕ) → Cycle (graph_of s) k cycle → HasOneVerdict s cycle

-- ---- what is proved of them

abbrev pub OpeningIsLawful : Type 0
OpeningIsLawful = (c : Config) → IsWide c → Laws (opening c)

-- every event keeps all laws
abbrev pub EventsKeepLaws : Type 0
EventsKeepLaws = (e : Event) (old new : TableState) (reply : Result (Answer e) Refusal) → Step e old reply new → Laws old → Laws new

-- so every state that is reached has them
abbrev pub ReachedIsLawful : Type 0
ReachedIsLawful = (c : Config) → IsWide c → (s : TableState) → IsReached c s → Laws s

-- and a verdict can stand in one
abbrev pub LawsAreNotEmpty : Type 0
LawsAreNotEmpty = (c : Config) × IsWide c × (s : TableState) × IsReached c s × (v : ℕ) × IsTrue (has_verdict s v)

-- owners and waits name live keys, private labels are distinct, each verdict is of a deadlocked process whose private label is the greatest of its cycle, and no cycle has two
pub record HasSoundVerdicts (s : TableState) : Type 0 where
  pub owners : (r : ℕ) (k : Key) → owner_of s r ≡ Some k → IsTrue (is_live s k)
  pub waits : AllByRecursion (λ w. IsTrue (is_live s w.key)) s.waits
  pub private : (i j : ℕ) → private_of s i ≡ private_of s j → i ≡ j
  pub deadlocked : (v : ℕ) → IsTrue (has_verdict s v)
      → (cycle : List ℕ) × Cycle (graph_of s) v cycle × ((k : ℕ) → Among k cycle → k ≢ v → IsTrue (label_lt (private_of s k) (private_of s v)))
  pub one : (k : ℕ) (cycle : List ℕ) → Cycle (graph_of s) k cycle → (u v : ℕ) → Among u cycle → Among v cycle → IsTrue (has_verdict s u) → IsTrue (has_verdict s v) → u ≡ v

abbrev pub VerdictsAreSound : Type 0
VerdictsAreSound = (s : TableState) → Laws s → HasSoundVerdicts s

-- a quiet table has no cycle of waits
abbrev pub QuietHasNoCycle : Type 0
QuietHasNoCycle = (s : TableState) → Laws s → Quiet s → (k : ℕ) (cycle : List ℕ) → Cycle (graph_of s) k cycle → ⊥

-- no event lowers a public label
abbrev pub PublicLabelsNeverFall : Type 0
PublicLabelsNeverFall = (e : Event) (old new : TableState) (reply : Result (Answer e) Refusal) → Step e old reply new → Laws old
    → (n : ℕ) → IsTrue (label_le (public_of old n) (public_of new n))

-- ---- keys

-- the key that begin gives was not live, and is
abbrev pub KeysAreFresh : Type 0
KeysAreFresh = (old new : TableState) (k : Key) → Step Begin old (Ok k) new → Laws old → IsFalse (is_live old k) × IsTrue (is_live new k)

-- a key that is live no more never is again
abbrev pub KeysNeverReturn : Type 0
KeysNeverReturn = (e : Event) (old mid new : TableState) (reply : Result (Answer e) Refusal) (es : List Event) → Step e old reply mid → Run mid es new → Laws old
    → (k : Key) → IsTrue (is_live old k) → IsFalse (is_live mid k) → IsFalse (is_live new k)

-- ---- counts

-- how many verdicts an accepted event gives, by its answer
abbrev pub verdicts_made : (e : Event) → Answer e → ℕ
verdicts_made (Detect k) (Deadlock l) = 1
verdicts_made Settle answer = answer.verdicts
verdicts_made e answer = 0

-- how many aborts an accepted event makes
abbrev pub aborts_made : Event → ℕ
aborts_made (Abort k) = 1
aborts_made e = 0

-- an accepted event is counted, and so are the verdicts and aborts that it makes; a refused one counts nothing
abbrev pub Counts : (e : Event) → Result (Answer e) Refusal → Totals → Totals → Type 0
Counts e (Ok answer) old new =
    (new.accepted ≡ old.accepted + 1) × (new.verdicts ≡ old.verdicts + verdicts_made e answer) × (new.aborts ≡ old.aborts + aborts_made e)
Counts e (Err refusal) old new = new ≡ old

-- so it is with every event, in any state
abbrev pub CountsAreExact : Type 0
CountsAreExact = (e : Event) (old new : TableState) (reply : Result (Answer e) Refusal) → Step e old reply new → Counts e reply old.totals new.totals

-- ---- raises, and what settling gives

-- the number of waiting processes, times that of all
abbrev pub most_raises : TableState → ℕ
most_raises s = length (waiting_processes s) * s.config.processes

-- each of the events is a transmit or a detect
abbrev pub TransmitsAndDetects : List Event → Type 0
TransmitsAndDetects [] = ⊤
TransmitsAndDetects (Transmit k ∷ es) = TransmitsAndDetects es
TransmitsAndDetects (Detect k ∷ es) = TransmitsAndDetects es
TransmitsAndDetects (e ∷ es) = ⊥

-- 1 if a transmit answers that it raised a label, and else 0
abbrev pub raise_told : (e : Event) → Result (Answer e) Refusal → ℕ
raise_told (Transmit k) (Ok (Raised l)) = 1
raise_told e reply = 0

-- how many replies of a run tell of a raise
abbrev pub raises_told : (es : List Event) (old new : TableState) → Run old es new → ℕ
raises_told [] old new run = 0
raises_told (e ∷ es) old new (mid, reply, step, rest) = raise_told e reply + raises_told es mid new rest

-- an event has one reply and one new state, so two calls that make it of the same state answer the same and lead to the same state
abbrev pub StepsAreDetermined : Type 0
StepsAreDetermined = (e : Event) (s t u : TableState) (r q : Result (Answer e) Refusal) → Step e s r t → Step e s q u → (r ≡ q) × (t ≡ u)

-- transmits and detects alone, however many, raise at most this many labels
abbrev pub RaisesAreBounded : Type 0
RaisesAreBounded = (old new : TableState) (es : List Event) → TransmitsAndDetects es → (run : Run old es new) → Laws old → raises_told es old new run ≤ most_raises old

-- from each lawful state some sweep is the first that raises nothing, so a settle always has an outcome
abbrev pub SettleEnds : Type 0
SettleEnds = (s : TableState) → Laws s → (n : ℕ) × Settles s n

-- the table is at rest, each process shows the greatest public label that stood along its waits, and at most this many labels were raised
pub record RestsFrom (old new : TableState) (answer : Settled) : Type 0 where
  pub at_rest : AtRest new
  pub greatest : (k : ℕ) → IsGreatest (graph_of old) k (word_of (public_of new k))
  pub raise_bound : answer.raises ≤ most_raises old

-- so it is after each accepted settle
abbrev pub SettleGivesRest : Type 0
SettleGivesRest = (old new : TableState) (answer : Settled) → Step Settle old (Ok answer) new → Laws old → RestsFrom old new answer
