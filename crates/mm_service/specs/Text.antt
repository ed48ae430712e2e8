-- What a service is answered.
use Rattle.std.specs.Prelude.{◌≡◌, ◌↔◌, ⊤, ℕ, List, [], ◌∷◌, ◌++◌, length, Option, Some, Result, Ok, Err, codes, decimal}
use Rattle.mm_arena.specs.declared.key.Key.{Key}
use Rattle.mm_settled.specs.declared.reply.Grant.{Grant}
use Rattle.mm_manager.specs.LockState.{LockState, Owns, IsLawful}
use Rattle.mm_manager.specs.Reads.{HasStatus, waits_of}
use Rattle.mm_manager.specs.declared.refusal.Refusal.{Refusal}
use Rattle.mm_manager.specs.declared.reply.Lock.{Lock}
use Rattle.mm_manager.specs.declared.reply.Lock.TheVariants as locks
use Rattle.mm_manager.specs.declared.reply.Status.{Status}
use Rattle.mm_manager.specs.declared.reply.TryLock.{TryLock}
use Rattle.mm_manager.specs.declared.reply.Wait.{Wait}
use Rattle.mm_service.specs.Cycle.{lock_text}
use Rattle.mm_service.specs.Holds.{HoldsText}
use Rattle.mm_service.specs.Line.{line_of}
use Rattle.mm_manager.specs.Made.{Begun, Locked, Tried, Unlocked, Committed, Aborted, Cancelled}
use Rattle.mm_service.specs.Reply.{line_text, answer_text, begun_text, try_text, unlocked_text, committed_text, abort_text, cancel_text, owner_text, totals_text, status_text, granted_text, edge_text, name_at}
use Rattle.mm_service.specs.declared.requests.KeyRequest.{KeyRequest}
use Rattle.mm_service.specs.declared.requests.KeyRequest.TheVariants as of_key
use Rattle.mm_service.specs.declared.effect.Effect.{Effect}
use Rattle.mm_service.specs.declared.effect.Effect.TheVariants as effects
use Rattle.mm_service.specs.declared.line.Line.{Line}
use Rattle.mm_service.specs.declared.line.Line.TheVariants as kind
use Rattle.mm_service.specs.declared.requests.NameRequest.{NameRequest}
use Rattle.mm_service.specs.declared.requests.NameRequest.TheVariants as of_name
use Rattle.mm_service.specs.declared.line.Request.{Request}
use Rattle.mm_service.specs.declared.line.Request.TheVariants as requests

-- ---- what a request caused for others

-- a wait ended by a grant: its transaction owns the name
abbrev pub told_line : LockState → Grant → List ℕ
told_line m g = line_text (granted_text g.key (name_at m g.resource))

abbrev pub told_lines : LockState → List Grant → List ℕ
told_lines m [] = []
told_lines m (g ∷ gs) = told_line m g ++ told_lines m gs

-- the waits that the last call ended, in order
abbrev pub told_text : LockState → List ℕ
told_text m = told_lines m m.granted

-- what a request caused beside its reply
abbrev pub effect_text : LockState → Effect → List ℕ
effect_text m effects.EndedWaits = told_text m
effect_text m (effects.Ended k) = told_text m
effect_text m _ = []

-- a request of k was refused as a deadlock with h, the owner of the one name that it asked for
abbrev pub lock_effect : Key → Result Lock Refusal → Effect
lock_effect k (Ok (locks.Deadlock h)) = effects.Deadlock k h 0
lock_effect k _ = effects.Nothing

-- k ended, or its end is refused
abbrev pub end_effect : Key → Result (Unit {0}) Refusal → Effect
end_effect k (Ok done) = effects.Ended k
end_effect k (Err refusal) = effects.Nothing

-- no transaction ended
abbrev pub EndsNobody : Effect → Type 0
EndsNobody (effects.Ended k) = ⊥
EndsNobody _ = ⊤

-- ---- what is read

-- a line for each wait
abbrev pub edge_lines : LockState → List Wait → List ℕ
edge_lines m [] = []
edge_lines m (w ∷ ws) = line_text (edge_text w.key (name_at m w.number) w.holder) ++ edge_lines m ws

-- the wait-for graph: how many wait, and a line for each
abbrev pub graph_text : LockState → List ℕ
graph_text m = line_text (codes "graph " ++ decimal (length (waits_of m.table))) ++ edge_lines m (waits_of m.table)

-- the owner of a name
abbrev pub OwnerText : LockState → List ℕ → List ℕ → Type 0
OwnerText m name out = (owner : Option Key) × ((k : Key) → (owner ≡ Some k) ↔ Owns m k name) × (out ≡ line_text (owner_text owner))

-- ---- what a line is answered

-- a request of a name: the lines of its reply, and what it came to
abbrev pub RepliesName : NameRequest → Key → List ℕ → LockState → List ℕ → Effect → LockState → Type 0
RepliesName of_name.Lock k name old reply effect new = (answer : Result Lock Refusal) × Locked old k name answer new × (reply ≡ line_text (answer_text (lock_text new k) answer)) × (effect ≡ lock_effect k answer)
RepliesName of_name.Try k name old reply effect new = (answer : Result TryLock Refusal) × Tried old k name answer new × (reply ≡ line_text (answer_text try_text answer)) × (effect ≡ effects.Nothing)
RepliesName of_name.Unlock k name old reply effect new = (answer : Result (Unit {0}) Refusal) × Unlocked old k name answer new × (reply ≡ line_text (answer_text unlocked_text answer)) × (effect ≡ effects.EndedWaits)

-- a request of a transaction
abbrev pub RepliesKey : KeyRequest → Key → LockState → List ℕ → Effect → LockState → Type 0
RepliesKey of_key.Commit k old reply effect new = (answer : Result (Unit {0}) Refusal) × Committed old k answer new × (reply ≡ line_text (answer_text committed_text answer)) × (effect ≡ end_effect k answer)
RepliesKey of_key.Abort k old reply effect new = (answer : Result (Unit {0}) Refusal) × Aborted old k answer new × (reply ≡ line_text (answer_text abort_text answer)) × (effect ≡ end_effect k answer)
RepliesKey of_key.Cancel k old reply effect new = (answer : Result (Unit {0}) Refusal) × Cancelled old k answer new × (reply ≡ line_text (answer_text cancel_text answer)) × (effect ≡ effects.Nothing)
RepliesKey of_key.Status k old reply effect new = (answer : Result Status Refusal) × HasStatus old k answer × (new ≡ old) × (reply ≡ line_text (answer_text (status_text old) answer)) × (effect ≡ effects.Nothing)

-- a request, of this name if it is of one
abbrev pub Replies : Request → List ℕ → LockState → List ℕ → Effect → LockState → Type 0
Replies requests.Begin name old reply effect new = (answer : Result Key Refusal) × Begun old answer new × (reply ≡ line_text (answer_text begun_text answer)) × (effect ≡ effects.Nothing)
Replies (requests.OfName request k) name old reply effect new = RepliesName request k name old reply effect new
Replies (requests.OfKey request k) name old reply effect new = RepliesKey request k old reply effect new
Replies (requests.Holds k) from old reply effect new = HoldsText old k from reply × (new ≡ old) × (effect ≡ effects.Nothing)
Replies requests.Owner name old reply effect new = OwnerText old name reply × (new ≡ old) × (effect ≡ effects.Nothing)
Replies requests.Graph name old reply effect new = (reply ≡ graph_text old) × (new ≡ old) × (effect ≡ effects.Nothing)
Replies requests.Totals name old reply effect new = (reply ≡ line_text (totals_text old.totals)) × (new ≡ old) × (effect ≡ effects.Nothing)

-- a request is answered by its reply, and then by what it caused
pub record AnswersRequest (request : Request) (name : List ℕ) (old : LockState) (out : List ℕ) (new : LockState) : Type 0 where
  pub reply : List ℕ
  pub effect : Effect
  pub replies : Replies request name old reply effect new
  pub text : out ≡ reply ++ effect_text new effect

-- the bytes that a line is answered, 1 if it is malformed, and the manager after it; before and after a request all holds that holds of any manager that a
-- caller can hold
abbrev pub AnswersLine : Line → List ℕ → LockState → List ℕ → ℕ → LockState → Type 0
AnswersLine kind.Silent name old out malformed new = (out ≡ []) × (malformed ≡ 0) × (new ≡ old)
AnswersLine kind.Malformed name old out malformed new = (out ≡ line_text (codes "malformed")) × (malformed ≡ 1) × (new ≡ old)
AnswersLine (kind.Request request) name old out malformed new = IsLawful old × AnswersRequest request name old out new × IsLawful new × (malformed ≡ 0)

-- the same of the bytes of a line
abbrev pub Answers : LockState → List ℕ → List ℕ → ℕ → LockState → Type 0
Answers old line out malformed new = AnswersLine (line_of line).line (line_of line).name old out malformed new
