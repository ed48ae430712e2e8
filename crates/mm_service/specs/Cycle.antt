-- The reply to a lock. Of a deadlock it tells the cycle of waits that the request would have closed: each transaction along the waits from the holder on, with the name that it
-- waits for, up to the one that waits for the requester.
use Rattle.std.specs.Prelude.{◌≡◌, ◌<◌, ℕ, zero, suc, List, [], ◌∷◌, ◌++◌, length, Option, Some, None, Ok, codes, if◌then◌else◌}
use Rattle.mm_arena.specs.declared.key.Key.{Key}
use Rattle.mm_arena.specs.Key.{key_text}
use Rattle.mm_arena.specs.Shelf.{key_eq}
use Rattle.mm_manager.specs.LockState.{LockState, Owns, IsLawful}
use Rattle.mm_manager.specs.Made.{Locked}
use Rattle.mm_manager.specs.Reads.{wait_at}
use Rattle.mm_manager.specs.declared.reply.Lock.{Lock}
use Rattle.mm_manager.specs.declared.reply.Lock.TheVariants as lock
use Rattle.mm_manager.specs.declared.reply.Wait.{Wait}
use Rattle.mm_service.specs.Reply.{name_at}

-- k, and the name that it asks or waits for
abbrev pub pair_text : Key → List ℕ → List ℕ
pair_text k name = codes " " ++ key_text k ++ codes " " ++ name

-- h with its wait, and after it the rest, unless it waits for k
abbrev pub pairs_by : (Key → List ℕ) → LockState → Key → Key → Option Wait → List ℕ
pairs_by rest m k h None = []
pairs_by rest m k h (Some w) = pair_text h (name_at m w.number) ++ (if key_eq w.holder k then [] else rest w.holder)

-- this many at most from h on, each the one for which the last one waits, until one waits for k
abbrev pub pairs_text : ℕ → LockState → Key → Key → List ℕ
pairs_text zero m k h = codes " .."
pairs_text (suc left) m k h = pairs_by (pairs_text left m k) m k h (wait_at m.table h.process)

-- the cycle that k would have closed by a wait for h, 16 transactions at most
abbrev pub cycle_text : LockState → Key → Key → List ℕ
cycle_text m k h = pairs_text 16 m k h

-- what k is told that asked for a name
abbrev pub lock_text : LockState → Key → Lock → List ℕ
lock_text m k lock.Granted = codes "granted"
lock_text m k lock.Held = codes "held"
lock_text m k (lock.Waits h) = codes "waits " ++ key_text h
lock_text m k (lock.Deadlock h) = codes "deadlock" ++ cycle_text m k h

-- ---- what is proved of it

-- these waits lead from h to k: the first one is that of h, each other one is that of the owner of what the one before it is for, and the last one is for a name of k
abbrev pub LeadTo : LockState → Key → List Wait → Key → Type 0
LeadTo m h [] k = h ≡ k
LeadTo m h (w ∷ ws) k = (wait_at m.table h.process ≡ Some w) × LeadTo m w.holder ws k

-- this many of those waits at most, each by who waits, and for which name
abbrev pub waits_text : ℕ → LockState → Key → List Wait → List ℕ
waits_text most m h [] = []
waits_text zero m h (w ∷ ws) = codes " .."
waits_text (suc most) m h (w ∷ ws) = pair_text h (name_at m w.number) ++ waits_text most m w.holder ws

-- h owns the name that k asked for, waits lead from h to k, and those are told
pub record TellsCycle (m : LockState) (k h : Key) (name : List ℕ) : Type 0 where
  pub owner : Owns m h name
  pub waits : List Wait
  pub some : 0 < length waits
  pub lead : LeadTo m h waits k
  pub told : (most : ℕ) → pairs_text most m k h ≡ waits_text most m h waits

-- so it is after each answer that there is a deadlock
abbrev pub CycleIsTold : Type 0
CycleIsTold = (old new : LockState) (k h : Key) (name : List ℕ) → Locked old k name (Ok (lock.Deadlock h)) new → IsLawful old → IsLawful new → TellsCycle new k h name
