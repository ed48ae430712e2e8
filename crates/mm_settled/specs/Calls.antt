-- What the calls of a settled table do.
use Rattle.std.specs.Prelude.{ℕ, ◌≡◌, ◌⊎◌, ◌↔◌, ◌+◌, ◌^◌, ◌&&◌, Bool, true, false, List, [], Some, None, Result, Ok, Err, IsTrue, MatchBool, nat_lt}
use Rattle.mm_arena.specs.declared.key.Key.{Key}
use Rattle.mm_label.specs.Label.{Label}
use Rattle.mm_lists.specs.Members.{Among}
use Rattle.mm_rules.specs.declared.config.Config.{Config}
use Rattle.mm_rules.specs.declared.refusal.Refusal.{Refusal}
use Rattle.mm_rules.specs.declared.refusal.Refusal.TheVariants.{CountsExhausted}
use Rattle.mm_rules.specs.declared.reply.Acquired.TheVariants as acquired
use Rattle.mm_rules.specs.declared.reply.Settled.{Settled}
use Rattle.mm_rules.specs.TableState.{TableState, has_verdict, owner_of, wait_of}
use Rattle.mm_rules.specs.Event.{Event, Acquire, Settle, Answer, Step, OpensWide}
use Rattle.mm_rules.specs.Change.{take_back}
use Rattle.mm_rules.specs.TakeBack.{LeadsTo, IsSameButLabels}
use Rattle.mm_rules.specs.Withdraw.{Withdraws}
use Rattle.mm_settle_lemmas.specs.Touched.{changed_processes}
use Rattle.mm_settled.specs.SettledState.{SettledState}
use Rattle.mm_settled.specs.declared.reply.Locked.{Locked}
use Rattle.mm_settled.specs.declared.reply.Locked.TheVariants.{Granted, Waits, Deadlock}

-- an event and a settle can be counted
abbrev pub has_room : TableState → Bool
has_room s = nat_lt (s.totals.accepted + 1) (2 ^ 62) && nat_lt s.totals.verdicts (2 ^ 62)

-- a refused call changes nothing: there is no room to count it with a settle, or the table refuses the event
abbrev pub Refuses : Event → TableState → Refusal → TableState → Type 0
Refuses e old refusal new = (new ≡ old) × MatchBool (has_room old) (Step e old (Err refusal) old) (refusal ≡ CountsExhausted)

-- nothing follows, or a settle does
abbrev pub Rests : TableState → TableState → Type 0
Rests mid new = (new ≡ mid) ⊎ ((answer : Settled) × Step Settle mid (Ok answer) new)

-- none of these waits
abbrev pub NoneWaits : TableState → List ℕ → Type 0
NoneWaits s ns = (n : ℕ) → Among n ns → wait_of s n ≡ None

-- the event is accepted; nothing follows exactly if none of those that it changed waits then, else a settle does
pub record Made (e : Event) (old : TableState) (answer : Answer e) (new : TableState) : Type 0 where
  pub room : IsTrue (has_room old)
  pub mid : TableState
  pub event : Step e old (Ok answer) mid
  pub rests : Rests mid new
  pub quiet : (new ≡ mid) ↔ NoneWaits mid (changed_processes old mid)

-- a call that makes this event
abbrev pub Makes : (e : Event) → TableState → Result (Answer e) Refusal → TableState → Type 0
Makes e old (Ok answer) new = Made e old answer new
Makes e old (Err refusal) new = Refuses e old refusal new

-- k withdraws; nothing follows exactly if none of those that it changed waits then, else a settle does
pub record MadeWithdrawal (k : Key) (old new : TableState) : Type 0 where
  pub room : IsTrue (has_room old)
  pub mid : TableState
  pub event : Withdraws k old (Ok tt) mid
  pub rests : Rests mid new
  pub quiet : (new ≡ mid) ↔ NoneWaits mid (changed_processes old mid)

-- a withdrawal of k; a refused one changes nothing: there is no room to count it with a settle, or the table refuses it
abbrev pub MakesWithdrawal : Key → TableState → Result (Unit {0}) Refusal → TableState → Type 0
MakesWithdrawal k old (Ok _) new = MadeWithdrawal k old new
MakesWithdrawal k old (Err refusal) new = (new ≡ old) × MatchBool (has_room old) (Withdraws k old (Err refusal) old) (refusal ≡ CountsExhausted)

-- ---- acquire

-- k waits for r, which h owns, and the table is settled
pub record WaitsFrom (old : TableState) (k : Key) (r : ℕ) (h : Key) (new : TableState) : Type 0 where
  pub room : IsTrue (has_room old)
  pub label : Label
  pub mid : TableState
  pub answer : Settled
  pub event : Step (Acquire k r) old (Ok (acquired.Waits h label)) mid
  pub settle : Step Settle mid (Ok answer) new

-- h owns r, and the waits lead from h to k: so k would close a cycle. It began to wait, the settle gave it a verdict, and it took back its wait; but for labels and counts
-- all is as before
pub record Declines (old : TableState) (k : Key) (r : ℕ) (h : Key) (new : TableState) : Type 0 where
  pub owner : owner_of old r ≡ Some h
  pub closes : LeadsTo old h.process k.process
  pub settled : TableState
  pub waited : WaitsFrom old k r h settled
  pub verdict : IsTrue (has_verdict settled k.process)
  pub back : new ≡ take_back settled k.process
  pub same : IsSameButLabels old new

-- the request is granted; or k waits, and closes no cycle by that; or it would close one, and does not wait; or nothing changes, and the table refuses it, or
-- has no room to count it with a settle
abbrev pub Locks : TableState → Key → ℕ → Result Locked Refusal → TableState → Type 0
Locks old k r (Ok Granted) new = Step (Acquire k r) old (Ok acquired.Granted) new
Locks old k r (Ok (Waits h)) new = WaitsFrom old k r h new × (owner_of old r ≡ Some h) × ¬ LeadsTo old h.process k.process
Locks old k r (Ok (Deadlock h)) new = Declines old k r h new
Locks old k r (Err refusal) new = (new ≡ old) × (Step (Acquire k r) old (Err refusal) old ⊎ ((refusal ≡ CountsExhausted) × (has_room old ≡ false)))

-- the answer is that there is a deadlock
abbrev pub IsDeadlock : Result Locked Refusal → Bool
IsDeadlock (Ok (Deadlock h)) = true
IsDeadlock (Ok Granted) = false
IsDeadlock (Ok (Waits h)) = false
IsDeadlock (Err refusal) = false

-- ---- open

-- a settled table is opened as a table is that is opened wide, and tells of nobody
abbrev pub OpensSettled : Config → Result SettledState Refusal → Type 0
OpensSettled c (Ok s) = OpensWide c (Ok s.table) × (s.granted ≡ [])
OpensSettled c (Err refusal) = OpensWide c (Err refusal)
