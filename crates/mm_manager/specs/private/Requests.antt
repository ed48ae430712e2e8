-- How a request is answered by number, and a try for a name.
use Rattle.std.specs.Prelude.{◌≡◌, ◌≢◌, ◌⊎◌, ◌&&◌, ℕ, List, true, false, Some, None, Result, Ok, Err, IfErr, OnOk, if◌then◌else◌, nat_eq}
use Rattle.mm_arena.specs.declared.key.Key.{Key}
use Rattle.mm_names.specs.Names.{NameTable, IsRefusedAsFull, with_name}
use Rattle.mm_rules.specs.TableState.{TableState, owner_of}
use Rattle.mm_settled.specs.Calls.{Locks}
use Rattle.mm_settled.specs.declared.reply.Locked.TheVariants as locked
use Rattle.mm_manager.specs.Calls.{Requests}
use Rattle.mm_manager.specs.Permit.{first_refusal, may_ask, may_count, may_request, may_wait}
use Rattle.mm_manager.specs.LockState.{LockState, Owns, untold}
use Rattle.mm_manager.specs.Refused.{TryRefused}
use Rattle.mm_manager.specs.declared.refusal.Refusal.{Refusal}
use Rattle.mm_manager.specs.declared.refusal.Refusal.TheVariants.{LabelsFull, NamesFull}
use Rattle.mm_manager.specs.declared.reply.Lock.{Lock}
use Rattle.mm_manager.specs.declared.reply.Lock.TheVariants as lock
use Rattle.mm_manager.specs.declared.reply.TryLock.{TryLock}
use Rattle.mm_manager.specs.declared.reply.TryLock.TheVariants.{Held, Busy}
use Rattle.mm_manager.specs.declared.totals.Totals.{Totals}
use Rattle.mm_manager.specs.private.Numbers.{silent}

-- the transaction may ask, and an event may be counted
abbrev pub may_ask_more : TableState → Key → Result (Unit {0}) Refusal
may_ask_more s k = first_refusal (may_ask s k) (may_count s)

-- a request for a number whose name is new is granted, or refused for what the name does not matter to, and then the number has no name again
abbrev pub AnswersNew : TableState → Key → ℕ → NameTable → Result Lock Refusal → TableState → NameTable → Type 0
AnswersNew s k n t (Ok answer) u named = (answer ≡ lock.Granted) × (may_ask_more s k ≡ Ok tt) × Locks s k n (Ok locked.Granted) u × (named ≡ t)
AnswersNew s k n t (Err refusal) u named = (may_ask_more s k ≡ Err refusal) × (u ≡ s) × (named ≡ with_name t n None)

-- what a request for a number that has a name does, by its answer
abbrev pub AsksFor : TableState → Totals → Key → ℕ → Lock → TableState → Type 0
AsksFor s c k n lock.Granted u = Locks s k n (Ok locked.Granted) u
AsksFor s c k n (lock.Waits h) u = (may_wait s c ≡ true) × Locks s k n (Ok (locked.Waits h)) u
AsksFor s c k n (lock.Deadlock h) u = (may_wait s c ≡ true) × Locks s k n (Ok (locked.Deadlock h)) u
AsksFor s c k n lock.Held u = (owner_of s n ≡ Some k) × (u ≡ s)

-- it is answered so, or refused for what the name does not matter to, or since k would wait and there may be no label left for that
abbrev pub AnswersNamed : TableState → Totals → Key → ℕ → Result Lock Refusal → TableState → Type 0
AnswersNamed s c k n (Ok answer) u = (may_ask_more s k ≡ Ok tt) × AsksFor s c k n answer u
AnswersNamed s c k n (Err refusal) u =
    (u ≡ s)
    × ((may_ask_more s k ≡ Err refusal) ⊎ ((may_ask_more s k ≡ Ok tt) × (refusal ≡ LabelsFull) × (may_wait s c ≡ false) × ((h : Key) × (h ≢ k) × (owner_of s n ≡ Some h))))

-- what the names refuse a try for, whatever its transaction owns: as `TryRefused`
abbrev pub TryRefusedByNames : LockState → Key → List ℕ → Refusal → Type 0
TryRefusedByNames m k name refusal =
    (may_request m.table m.names.name_bytes k name ≡ Err refusal)
    ⊎ ((may_request m.table m.names.name_bytes k name ≡ Ok tt) × (refusal ≡ NamesFull) × IsRefusedAsFull m.names name)

-- what table and names refuse a request for: as `LockRefused`
abbrev pub LockRefusedByTable : LockState → Key → List ℕ → Refusal → Type 0
LockRefusedByTable m k name refusal =
    TryRefusedByNames m k name refusal
    ⊎ ((may_request m.table m.names.name_bytes k name ≡ Ok tt) × (refusal ≡ LabelsFull) × (may_wait m.table m.totals ≡ false) × ((h : Key) × (h ≢ k) × Owns m h name))

-- a request for a name, by what its reply says
abbrev pub Requested : TableState → NameTable → Totals → Key → List ℕ → Result Lock Refusal → TableState → NameTable → Type 0
Requested s t c k name (Ok answer) u named = (may_request s t.name_bytes k name ≡ Ok tt) × Requests s t c k name answer u named
Requested s t c k name (Err refusal) u named = LockRefusedByTable (silent s t c) k name refusal × (u ≡ s) × (named ≡ t)

-- what a try is told of a name that h owns
abbrev pub tried_by : Key → Key → TryLock
tried_by h k = if nat_eq h.process k.process && nat_eq h.generation k.generation then Held else Busy h

-- k, which owns as many names as a transaction may, asks for a name: it owns that, or is refused, and nothing changes
pub record Holds (old : LockState) (k : Key) (name : List ℕ) (answer : Result (Unit {0}) Refusal) (new : LockState) : Type 0 where
  pub may : OnOk answer (may_request old.table old.names.name_bytes k name ≡ Ok tt)
  pub owns : OnOk answer (Owns old k name)
  pub refused : IfErr answer (λ refusal. TryRefused old k name refusal)
  pub same : new ≡ untold old
