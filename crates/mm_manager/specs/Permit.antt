-- What a call is refused for before the table is asked, in the order of the tests.
use Rattle.std.specs.Prelude.{ℕ, ◌+◌, ◌-◌, ◌/◌, ◌^◌, Bool, List, length, Option, Some, None, Result, Ok, Err, if◌then◌else◌, nat_eq, nat_lt}
use Rattle.mm_arena.specs.declared.key.Key.{Key}
use Rattle.mm_rules.specs.TableState.{TableState, is_live, wait_of}
use Rattle.mm_manager.specs.declared.refusal.Refusal.{Refusal}
use Rattle.mm_manager.specs.declared.refusal.Refusal.TheVariants.{NoTransaction, Waiting, NameEmpty, NameTooLong, NotWaiting, TransactionsFull, CountsFull}
use Rattle.mm_manager.specs.declared.totals.Totals.{Totals}

-- by what a live transaction waits for, if anything
abbrev pub may_ask_in : Option ℕ → Result (Unit {0}) Refusal
may_ask_in None = Ok tt
may_ask_in (Some n) = Err Waiting

-- the key is live, and its transaction does not wait
abbrev pub may_ask : TableState → Key → Result (Unit {0}) Refusal
may_ask s k = if is_live s k then may_ask_in (wait_of s k.process) else Err NoTransaction

-- the name has from 1 to this many bytes
abbrev pub may_name : ℕ → List ℕ → Result (Unit {0}) Refusal
may_name name_bytes name = if nat_eq (length name) 0 then Err NameEmpty else if nat_lt name_bytes (length name) then Err NameTooLong else Ok tt

-- the first of two that refuses
abbrev pub first_refusal : Result (Unit {0}) Refusal → Result (Unit {0}) Refusal → Result (Unit {0}) Refusal
first_refusal (Ok passed) second = second
first_refusal (Err refusal) second = Err refusal

-- the transaction may ask, and these bytes can be a name
abbrev pub may_ask_for : TableState → ℕ → Key → List ℕ → Result (Unit {0}) Refusal
may_ask_for s name_bytes k name = first_refusal (may_ask s k) (may_name name_bytes name)

abbrev pub may_cancel_in : Option ℕ → Result (Unit {0}) Refusal
may_cancel_in None = Err NotWaiting
may_cancel_in (Some n) = Ok tt

-- the key is live, and its transaction waits
abbrev pub may_cancel : TableState → Key → Result (Unit {0}) Refusal
may_cancel s k = if is_live s k then may_cancel_in (wait_of s k.process) else Err NoTransaction

-- if this many events were counted, no transaction begins, and no name is asked for or adopted: what the table can count beyond is left for the ends of those that are live
abbrev pub event_limit : ℕ
event_limit = 2 ^ 62 - 2 ^ 26

-- fewer events were counted
abbrev pub may_count : TableState → Result (Unit {0}) Refusal
may_count s = if nat_lt s.totals.accepted event_limit then Ok tt else Err CountsFull

-- the key is live, and fewer were counted
abbrev pub may_own : TableState → Key → Result (Unit {0}) Refusal
may_own s k = if is_live s k then may_count s else Err NoTransaction

-- how many events can be counted before that
abbrev pub counts_left : TableState → ℕ
counts_left s = event_limit - s.totals.accepted

-- a transaction may begin
abbrev pub may_begin : TableState → Result (Unit {0}) Refusal
may_begin s = first_refusal (may_count s) (if nat_eq (length s.free) 0 then Err TransactionsFull else Ok tt)

-- the transaction may ask, an event may be counted, and these bytes can be a name
abbrev pub may_request : TableState → ℕ → Key → List ℕ → Result (Unit {0}) Refusal
may_request s name_bytes k name = first_refusal (may_ask s k) (first_refusal (may_count s) (may_name name_bytes name))

-- the transaction may own one name more, and these bytes can be a name
abbrev pub may_adopt : TableState → ℕ → Key → List ℕ → Result (Unit {0}) Refusal
may_adopt s name_bytes k name = first_refusal (may_own s k) (may_name name_bytes name)

-- how many requests met another owner, so that each took labels: they waited, or would have closed a cycle
abbrev pub requests_met : Totals → ℕ
requests_met t = t.waits + t.deadlocks

-- a wait, and all hand-overs after it, find labels below the limit: by a request that meets another owner the counter of a label and the number of waits together grow by two
-- at the most, and by no other call
abbrev pub may_wait : TableState → Totals → Bool
may_wait s t = nat_lt (requests_met t) (s.config.label_limit / 2)

-- how many requests can meet another owner before a wait finds no label
abbrev pub labels_left : TableState → Totals → ℕ
labels_left s t = s.config.label_limit / 2 - requests_met t
