-- Connections are apart: what one of them says leaves the transactions of the others.
use Rattle.std.specs.Prelude.{◌≡◌, ◌⊎◌, ℕ, Bool, true, false, List}
use Rattle.mm_arena.specs.declared.key.Key.{Key}
use Rattle.mm_lines.specs.Text.{Text}
use Rattle.mm_lists.specs.Members.{Among}
use Rattle.mm_tagged_lists.specs.TaggedLists.{Listing}
use Rattle.mm_rules.specs.TableState.{is_live}
use Rattle.mm_manager.specs.LockState.{untold}
use Rattle.mm_service.specs.declared.line.Request.TheVariants as requests
use Rattle.mm_service.specs.declared.requests.KeyRequest.TheVariants as of_key
use Rattle.mm_apart.specs.Apart.{IsLeft}
use Rattle.mm_connections.specs.Begun.{connection_of, has_any, IsOf, has_first, open_list}
use Rattle.mm_connections.specs.Counts.{count_at}
use Rattle.mm_connections.specs.Line.{said_of}
use Rattle.mm_connections.specs.Hub.{Hub, IsLawfulHub}
use Rattle.mm_connections.specs.Text.{EndsPart, HangsUp, Makes, Answers}
use Rattle.mm_connections.specs.declared.request.ClientRequest.TheVariants as asked
use Rattle.mm_connections.specs.declared.line.Said.{Said}
use Rattle.mm_connections.specs.declared.line.Said.TheVariants as said

-- t is left (`IsLeft`: it is live, owns what it owned, and its wait is the same or ended by a grant), and is whose it was
pub record StaysApart (old : Hub) (t : Key) (new : Hub) : Type 0 where
  pub left : IsLeft old.manager t new.manager
  pub owner : connection_of new.begun t ≡ connection_of old.begun t

-- this is said by the connection that began t, or asked by the operator
abbrev pub MayTouch : Listing → Said → Key → Type 0
MayTouch begun said.Nobody t = ⊥
MayTouch begun (said.Malformed c) t = ⊥
MayTouch begun (said.HangsUp c) t = IsOf begun c t
MayTouch begun (said.Asks c request) t = (c ≡ 0) ⊎ IsOf begun c t

-- so any line of another connection leaves each live transaction, whatever its bytes are
abbrev pub LinesAreApart : Type 0
LinesAreApart = (line out : List ℕ) (malformed : ℕ) (old new : Hub) → Answers old line out malformed new
    → (t : Key) → is_live old.manager.table t ≡ true → ¬ MayTouch old.begun (said_of (old.options.connections) line).said t → StaysApart old t new

-- no line of these is said by the connection that began t, or asked by the operator
abbrev pub NoneTouches : Hub → List (List ℕ) → Key → Type 0
NoneTouches h lines t = (line : List ℕ) → Among line lines → ¬ MayTouch h.begun (said_of h.options.connections line).said t

-- so any lines of other connections leave each live transaction, however many they are; of a run that ended early, those that were answered
abbrev pub RunsAreApart : Type 0
RunsAreApart = (whole : Bool) (lines : List (List ℕ)) (out : List ℕ) (malformed : ℕ) (old new : Hub) → Text Answers whole old lines out malformed new
    → (t : Key) → is_live old.manager.table t ≡ true → NoneTouches old lines t → StaysApart old t new

-- by a part of an end nobody ends, and each transaction is whose it was: that one too, which further lines end
abbrev pub PartsEndNobody : Type 0
PartsEndNobody = (k : Key) (old new : Hub) (out : List ℕ) → EndsPart k old out new → IsLawfulHub old → (t : Key)
    → (is_live new.manager.table t ≡ is_live old.manager.table t) × (connection_of new.begun t ≡ connection_of old.begun t)

-- after the last part of an abort, which is an ordinary one, its transaction is not live; after that of a commit neither, if it was not refused
abbrev pub LastPartsEnd : Type 0
LastPartsEnd = (c : ℕ) (k : Key) (name out : List ℕ) (old new : Hub) → IsLawfulHub old
    → (Makes c (asked.Plain (requests.OfKey of_key.Abort k)) name old out new → is_live new.manager.table k ≡ false)
    × (Makes c (asked.Plain (requests.OfKey of_key.Commit k)) name old out new → (is_live new.manager.table k ≡ false) ⊎ (new.manager ≡ untold old.manager))

-- after a part of a hang-up each transaction of the connection has ended, or is the connection's still
abbrev pub HangUpEnds : Type 0
HangUpEnds = (c : ℕ) (old new : Hub) (out : List ℕ) → HangsUp c old out new → IsLawfulHub old → (t : Key) → IsOf old.begun c t
    → (is_live new.manager.table t ≡ false) ⊎ IsOf new.begun c t

-- a part of a hang-up after which a transaction of the connection is left that was not set aside, and may wait, ended none
abbrev pub HangUpEndsLast : Type 0
HangUpEndsLast = (c : ℕ) (old new : Hub) (out : List ℕ) → HangsUp c old out new → has_first new.begun (open_list c) ≡ true
    → (t : Key) → is_live old.manager.table t ≡ true → is_live new.manager.table t ≡ true

-- nothing is left of connection c: no transaction is its own, and its count is 0
pub record HasNone (h : Hub) (c : ℕ) : Type 0 where
  pub none : (t : Key) → ¬ IsOf h.begun c t
  pub count : count_at h.counts c ≡ 0

-- after the last part, which answers that c is over, nothing is left of it
abbrev pub HangUpLeavesNone : Type 0
HangUpLeavesNone = (c : ℕ) (old new : Hub) (out : List ℕ) (did : HangsUp c old out new) → has_any did.last.begun c ≡ false → HasNone new c
