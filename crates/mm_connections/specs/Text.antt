-- What a connection is answered. What a request does, and its reply, are those of a service without connections (mm_service): here stands who is told what.
use Rattle.std.specs.Prelude.{◌≡◌, ◌<◌, ◌≤◌, ◌-◌, ◌⊎◌, ℕ, zero, suc, Bool, true, false, List, [], ◌∷◌, ◌++◌, drop, take, Option, Some, None, is_some, Result, Ok, Err, codes, decimal, nat_eq, nat_le, nat_lt, if◌then◌else◌, slice_index_or, slice_set}
use Rattle.mm_arena.specs.declared.key.Key.{Key}
use Rattle.mm_arena.specs.Key.{key_text}
use Rattle.mm_tagged_lists.specs.TaggedLists.{Listing, spot_at, list_at, freed}
use Rattle.mm_lines.specs.Words.{words_of}
use Rattle.mm_rules.specs.TableState.{owned_count}
use Rattle.mm_settled.specs.declared.reply.Grant.{Grant}
use Rattle.mm_manager.specs.LockState.{LockState, IsLawful}
use Rattle.mm_manager.specs.Made.{Aborted, Begun, Cancelled, UnlockedAny}
use Rattle.mm_manager.specs.Permit.{counts_left}
use Rattle.mm_manager.specs.Reads.{wait_at}
use Rattle.mm_manager.specs.declared.refusal.Refusal.{Refusal}
use Rattle.mm_manager.specs.declared.refusal.Refusal.TheVariants.{NoTransaction, CountsFull, TransactionsFull}
use Rattle.mm_service.specs.Cycle.{pair_text, pairs_text}
use Rattle.mm_service.specs.Reply.{line_text, answer_text, begun_text, refusal_word}
use Rattle.mm_service.specs.Text.{Replies, told_line}
use Rattle.mm_service.specs.declared.effect.Effect.{Effect}
use Rattle.mm_service.specs.declared.effect.Effect.TheVariants as effects
use Rattle.mm_service.specs.declared.line.Request.{Request}
use Rattle.mm_service.specs.declared.line.Request.TheVariants as requests
use Rattle.mm_service.specs.declared.requests.KeyRequest.{KeyRequest}
use Rattle.mm_service.specs.declared.requests.KeyRequest.TheVariants as of_key
use Rattle.mm_connections.specs.Begun.{IsOf, aside_list, begun_by, connection_of, has_any, has_first, last_of, now_aside, open_list, set_aside}
use Rattle.mm_connections.specs.Counts.{after_end, count_at, counted, one_more}
use Rattle.mm_connections.specs.Hub.{Hub, IsLawfulHub, to, to_any}
use Rattle.mm_connections.specs.Line.{said_of}
use Rattle.mm_connections.specs.Names.{LocksNames, begun_with_text, stop_effect, stop_text}
use Rattle.mm_connections.specs.Permission.{permission_of}
use Rattle.mm_connections.specs.Reads.{ReadReply}
use Rattle.mm_connections.specs.declared.hang_up.TheConstants.{HANG_UP_PART}
use Rattle.mm_connections.specs.declared.line.Said.{Said}
use Rattle.mm_connections.specs.declared.line.Said.TheVariants as said
use Rattle.mm_connections.specs.declared.names.Stop.{Stop}
use Rattle.mm_connections.specs.declared.parts.TheConstants.{END_PART}
use Rattle.mm_connections.specs.declared.permission.Permission.{Permission}
use Rattle.mm_connections.specs.declared.permission.Permission.TheVariants as permit
use Rattle.mm_connections.specs.declared.request.ClientRequest.{ClientRequest}
use Rattle.mm_connections.specs.declared.request.ClientRequest.TheVariants as asked

-- ---- what a request caused

-- the connection to which a line about a transaction of this connection goes; none if it is the one that hangs up
abbrev pub receiver : Option ℕ → Option ℕ → Option ℕ
receiver None owner = owner
receiver (Some c) None = None
receiver (Some c) (Some d) = if nat_eq d c then None else Some d

-- whose waits the last call ended, in order, each to the connection of its transaction, but not to the one that hangs up
abbrev pub told_lines : Option ℕ → Hub → List Grant → List ℕ
told_lines but h [] = []
told_lines but h (g ∷ gs) = to_any (receiver but (connection_of h.begun g.key)) (told_line h.manager g) ++ told_lines but h gs

abbrev pub told_text : Option ℕ → Hub → List ℕ
told_text but h = told_lines but h h.manager.granted

-- the name at this place among those that a request is about
abbrev pub asked_name : ClientRequest → List ℕ → ℕ → List ℕ
asked_name asked.Begin line place = slice_index_or (drop 1 (words_of line)) place []
asked_name (asked.LockAll k) line place = slice_index_or (drop 2 (words_of line)) place []
asked_name _ name place = name

-- the cycle that k would have closed by a wait for the name, which h owns, is told to the operator: k first, and then the others, 16 in all at most
abbrev pub deadlock_text : LockState → Key → List ℕ → Key → List ℕ
deadlock_text m k name h = to 0 (line_text (codes "* deadlock" ++ pair_text k name ++ pairs_text 15 m k h))

abbrev pub aborted_text : Key → List ℕ
aborted_text k = codes "* aborted " ++ key_text k

-- the connection to which a line about the end of a transaction of this connection goes: who is ended by the operator is told of it
abbrev pub end_receiver : ℕ → Option ℕ → Option ℕ
end_receiver c owner = if nat_eq c 0 then owner else None

-- what a request of connection c about this caused beside its reply
abbrev pub events_text : ℕ → ClientRequest → List ℕ → Hub → Effect → List ℕ
events_text c request about h effects.EndedWaits = told_text None h
events_text c request about h (effects.Ended k) = to_any (end_receiver c (connection_of h.begun k)) (line_text (aborted_text k)) ++ told_text None h
events_text c request about h (effects.Deadlock k holder place) = deadlock_text h.manager k (asked_name request about place) holder
events_text c request about h effects.Nothing = []

-- ---- a part of an end

-- k gives back a name that it owns, as by an unlock, whichever it is. Who is granted it is told, but not connection `but`
pub record GivesBack (but : Option ℕ) (k : Key) (old : Hub) (out : List ℕ) (new : Hub) : Type 0 where
  pub answer : Result (Unit {0}) Refusal
  pub did : UnlockedAny old.manager k answer new.manager
  pub lawful : IsLawful new.manager
  pub rest : new ≡ record old { manager = new.manager }
  pub text : out ≡ told_text but new

-- so many names, one after the other
unfoldable pub GivesBackMany : Option ℕ → Key → ℕ → Hub → List ℕ → Hub → Type 0
GivesBackMany but k zero old out new = (out ≡ []) × (new ≡ old)
GivesBackMany but k (suc n) old out new =
    (mid : Hub) × (first : List ℕ) × (last : List ℕ) × GivesBackMany but k n old first mid × GivesBack but k mid last new × (out ≡ first ++ last)

-- who owns more names than END_PART ends by parts
abbrev pub many : Hub → Key → Option Key
many h k = if nat_lt END_PART (owned_count h.manager.table k) then Some k else None

-- a commit of who waits is refused
abbrev pub part_of_key : Hub → KeyRequest → Key → Option Key
part_of_key h of_key.Commit k = if is_some (wait_at h.manager.table k.process) then None else many h k
part_of_key h of_key.Abort k = many h k
part_of_key h _ k = None

-- the transaction that a request ends a part of, and no more
abbrev pub part_of : Hub → ClientRequest → Option Key
part_of h (asked.Plain (requests.OfKey request k)) = part_of_key h request k
part_of h _ = None

-- that k has to be ended by a further line is told to the server alone
abbrev pub more_text : Key → List ℕ
more_text k = line_text (codes "* more " ++ key_text k)

-- a part of the end of k, which is its connection's still: it is set aside, takes back its wait, if it waits, and gives back END_PART names. Others are told what that caused
pub record EndsPart (k : Key) (old : Hub) (out : List ℕ) (new : Hub) : Type 0 where
  pub idle : Hub
  pub answer : Result (Unit {0}) Refusal
  pub did : Cancelled old.manager k answer idle.manager
  pub back : IsLawful idle.manager
  pub rest : idle ≡ record old { manager = idle.manager; begun = now_aside old.begun k }
  pub told : List ℕ
  pub gives : GivesBackMany None k END_PART idle told new
  pub lawful : IsLawfulHub new
  pub text : out ≡ told ++ more_text k

-- ---- requests

-- the manager answers it as it does without connections
pub record Asks (request : Request) (name : List ℕ) (old : Hub) (reply : List ℕ) (effect : Effect) (new : Hub) : Type 0 where
  pub replies : Replies request name old.manager reply effect new.manager
  pub rest : new ≡ record old { manager = new.manager; counts = counted old.begun old.counts effect }

-- a transaction asks for these names
abbrev pub AsksAll : Key → List (List ℕ) → Hub → List ℕ → Effect → Hub → Type 0
AsksAll k names old reply effect new =
    (stop : Option Stop) × LocksNames 0 k names old.manager stop new.manager × (reply ≡ line_text (stop_text new.manager k stop)) × (effect ≡ stop_effect k stop) × (new ≡ record old { manager = new.manager })

-- the connection has as many transactions as it may have
abbrev pub is_full : Hub → ℕ → Bool
is_full h c = nat_le h.options.each (count_at h.counts c)

-- so a begin of it is refused
abbrev pub full_refusal : LockState → Refusal
full_refusal m = if nat_eq (counts_left m.table) 0 then CountsFull else TransactionsFull

-- with k as a transaction of connection c
abbrev pub with_begun : Hub → ℕ → Key → Hub
with_begun h c k = record h { begun = begun_by h.begun c k; counts = one_more h.counts c }

-- after the manager answered the begin so, the transaction asks for these names
abbrev pub BeginsAs : Result Key Refusal → ℕ → List (List ℕ) → Hub → List ℕ → Effect → Hub → Type 0
BeginsAs (Err refusal) c names mid reply effect new = (reply ≡ line_text (answer_text begun_text (Err refusal))) × (effect ≡ effects.Nothing) × (new ≡ mid)
BeginsAs (Ok k) c names mid reply effect new =
    (stop : Option Stop) × LocksNames 0 k names mid.manager stop new.manager × (reply ≡ line_text (begun_with_text new.manager k stop)) × (effect ≡ stop_effect k stop)
    × (new ≡ record (with_begun mid c k) { manager = new.manager })

-- by whether the connection has as many as it may have
abbrev pub BeginsBy : Bool → ℕ → List (List ℕ) → Hub → List ℕ → Effect → Hub → Type 0
BeginsBy true c names old reply effect new = (reply ≡ line_text (answer_text begun_text (Err (full_refusal old.manager)))) × (effect ≡ effects.Nothing) × (new ≡ old)
BeginsBy false c names old reply effect new =
    (answer : Result Key Refusal) × (mid : LockState) × Begun old.manager answer mid × IsLawful mid × BeginsAs answer c names (record old { manager = mid }) reply effect new

-- a request of connection c: its reply, without the number in front, what it came to, and the hub after it
abbrev pub RepliesTo : ℕ → ClientRequest → List ℕ → Hub → List ℕ → Effect → Hub → Type 0
RepliesTo c asked.Begin line old reply effect new = BeginsBy (is_full old c) c (drop 1 (words_of line)) old reply effect new
RepliesTo c (asked.LockAll k) line old reply effect new = AsksAll k (drop 2 (words_of line)) old reply effect new
RepliesTo c (asked.Plain request) name old reply effect new = Asks request name old reply effect new
RepliesTo c (asked.Read request) name old reply effect new = ReadReply c request name old reply × (effect ≡ effects.Nothing) × (new ≡ old)

-- a request is made: its reply goes to the connection, and then what it caused to the connections that it concerns
pub record Makes (c : ℕ) (request : ClientRequest) (name : List ℕ) (old : Hub) (out : List ℕ) (new : Hub) : Type 0 where
  pub reply : List ℕ
  pub effect : Effect
  pub replies : RepliesTo c request name old reply effect new
  pub lawful : IsLawfulHub new
  pub text : out ≡ to c reply ++ events_text c request name new effect

-- a request of which this transaction is ended by a part, if any is
abbrev pub MakesBy : Option Key → ℕ → ClientRequest → List ℕ → Hub → List ℕ → Hub → Type 0
MakesBy None c request name old out new = Makes c request name old out new
MakesBy (Some k) c request name old out new = EndsPart k old out new

-- a request by what becomes of it
abbrev pub ServesBy : Permission → ℕ → ClientRequest → List ℕ → Hub → List ℕ → Hub → Type 0
ServesBy permit.Make c request name old out new = MakesBy (part_of old request) c request name old out new
ServesBy permit.NoTransaction c request name old out new = (out ≡ to c (line_text (codes "refused " ++ refusal_word NoTransaction))) × (new ≡ old)
ServesBy permit.Operator c request name old out new = (out ≡ to c (line_text (codes "refused operator"))) × (new ≡ old)

abbrev pub Serves : ℕ → ClientRequest → List ℕ → Hub → List ℕ → Hub → Type 0
Serves c request name old out new = ServesBy (permission_of old.begun c request) c request name old out new

-- ---- a connection hangs up

-- the last transaction of the slot, which connection c began, takes back its wait, if it waits, and is set aside; it may have ended before
pub record SetsAside (c p : ℕ) (old new : Hub) : Type 0 where
  pub generation : ℕ
  pub was : spot_at old.begun p ≡ Some (record { list = open_list c; tag = generation })
  pub answer : Result (Unit {0}) Refusal
  pub did : Cancelled old.manager (record { process = p; generation = generation }) answer new.manager
  pub lawful : IsLawful new.manager
  pub rest : new ≡ record old { manager = new.manager; begun = set_aside old.begun c (record { process = p; generation = generation }) }

-- those of these slots, one after the other
abbrev pub SetsAllAside : ℕ → List ℕ → Hub → Hub → Type 0
SetsAllAside c [] old new = new ≡ old
SetsAllAside c (p ∷ ps) old new = (mid : Hub) × SetsAside c p old mid × SetsAllAside c ps mid new

-- the last transaction of the slot is nobody's from now on, and is aborted; it may have ended before
pub record Drops (c p : ℕ) (old : Hub) (out : List ℕ) (new : Hub) : Type 0 where
  pub generation : ℕ
  pub was : spot_at old.begun p ≡ Some (record { list = aside_list c; tag = generation })
  pub answer : Result (Unit {0}) Refusal
  pub did : Aborted old.manager (record { process = p; generation = generation }) answer new.manager
  pub lawful : IsLawful new.manager
  pub rest : new ≡ record old { manager = new.manager; begun = freed old.begun p; counts = after_end answer old.counts c }
  pub text : out ≡ told_text (Some c) new

-- how many names the last transaction of the slot owns
abbrev pub names_at : Hub → ℕ → ℕ
names_at h p = owned_count h.manager.table (last_of h.begun p)

-- those of these slots, one after the other, up to the first one that owns more names than are left of so many
abbrev pub DropsAll : ℕ → ℕ → List ℕ → Hub → List ℕ → Hub → Type 0
DropsAll c left [] old out new = (out ≡ []) × (new ≡ old)
DropsAll c left (p ∷ ps) old out new =
    ((left < names_at old p) × (out ≡ []) × (new ≡ old))
    ⊎ ((mid : Hub) × (first : List ℕ) × (rest : List ℕ) × (names_at old p ≤ left) × Drops c p old first mid × DropsAll c (left - names_at old p) ps mid rest new × (out ≡ first ++ rest))

-- the transaction of the first of these slots, if it owns more names than END_PART
abbrev pub long_first : Hub → List ℕ → Option Key
long_first h [] = None
long_first h (p ∷ ps) = many h (last_of h.begun p)

-- who owns more than END_PART names gives back so many, and is the connection's still; else those of these slots end that own so many in all
abbrev pub EndsBy : Option Key → ℕ → List ℕ → Hub → List ℕ → Hub → Type 0
EndsBy None c ps old out new = DropsAll c END_PART ps old out new
EndsBy (Some k) c ps old out new = IsOf old.begun c k × GivesBackMany (Some c) k END_PART old out new

-- those at the front of these slots end, or a part of the first one, so that END_PART names are given back at most
abbrev pub EndsFront : ℕ → List ℕ → Hub → List ℕ → Hub → Type 0
EndsFront c ps old out new = EndsBy (long_first old ps) c ps old out new

-- the slots whose transactions a line sets aside: a part of those that are left to be, the one begun last first
abbrev pub to_set_aside : Listing → ℕ → List ℕ
to_set_aside begun c = take HANG_UP_PART (list_at begun (open_list c))

-- and those whose transactions it may end, after that: none while one is left to be set aside
abbrev pub to_end : Listing → ℕ → List ℕ
to_end begun c = if has_first begun (open_list c) then [] else take HANG_UP_PART (list_at begun (aside_list c))

-- if connection c has none left, its count is 0
abbrev pub closed : ℕ → Hub → Hub
closed c h = if has_any h.begun c then h else record h { counts = slice_set h.counts c 0 }

-- whether c has to hang up again, or is over
abbrev pub hang_up_text : Bool → ℕ → List ℕ
hang_up_text true c = line_text (codes "* more " ++ decimal c)
hang_up_text false c = line_text (codes "- " ++ decimal c)

-- a part of the hang-up of connection c: a part of its transactions take back their waits, and once all have done so a part of them end. Others are told what that caused
pub record HangsUp (c : ℕ) (old : Hub) (out : List ℕ) (new : Hub) : Type 0 where
  pub aside : Hub
  pub sets : SetsAllAside c (to_set_aside old.begun c) old aside
  pub told : List ℕ
  pub last : Hub
  pub ends : EndsFront c (to_end aside.begun c) aside told last
  pub rest : new ≡ closed c last
  pub lawful : IsLawfulHub new
  pub text : out ≡ told ++ hang_up_text (has_any last.begun c) c

-- ---- lines

-- what a line says is answered: these bytes, 1 if it is malformed, and the hub after it
abbrev pub AnswersSaid : Said → List ℕ → Hub → List ℕ → ℕ → Hub → Type 0
AnswersSaid said.Nobody name old out malformed new = (out ≡ []) × (malformed ≡ 1) × (new ≡ old)
AnswersSaid (said.Malformed c) name old out malformed new = (out ≡ to c (line_text (codes "malformed"))) × (malformed ≡ 1) × (new ≡ old)
AnswersSaid (said.HangsUp c) name old out malformed new = IsLawfulHub old × HangsUp c old out new × (malformed ≡ 0)
AnswersSaid (said.Asks c request) name old out malformed new = IsLawfulHub old × Serves c request name old out new × (malformed ≡ 0)

-- the same of the bytes of a line
abbrev pub Answers : Hub → List ℕ → List ℕ → ℕ → Hub → Type 0
Answers old line out malformed new =
    AnswersSaid (said_of old.options.connections line).said (said_of old.options.connections line).name old out malformed new
