-- Which connection began each transaction. A connection has two lists of the processes of which it began the last transaction, each under the generation of that one: one of those
-- that are set aside, since it hangs up, and one of the others.
use Rattle.std.specs.Prelude.{◌≡◌, ℕ, ◌+◌, ◌*◌, ◌/◌, ◌%◌, Bool, false, ◌&&◌, ◌||◌, Option, Some, None, option_and_then, is_some, nat_eq, if◌then◌else◌}
use Rattle.mm_arena.specs.declared.key.Key.{Key}
use Rattle.mm_lists.specs.Members.{head}
use Rattle.mm_tagged_lists.specs.declared.spot.Spot.{Spot}
use Rattle.mm_tagged_lists.specs.TaggedLists.{Listing, list_at, spot_at, given, freed}

-- those of connection c that are not set aside
abbrev pub open_list : ℕ → ℕ
open_list c = c * 2

-- and those that are
abbrev pub aside_list : ℕ → ℕ
aside_list c = c * 2 + 1

-- the connection of a spot, if its tag is this generation
abbrev pub connection_in : Option Spot → ℕ → Option ℕ
connection_in spot generation = option_and_then (λ (o : Spot). if nat_eq o.tag generation then Some (o.list / 2) else None) spot

-- the connection that began the transaction, if that was not dropped since
abbrev pub connection_of : Listing → Key → Option ℕ
connection_of begun k = connection_in (spot_at begun k.process) k.generation

-- the spot has this generation as its tag, and is of connection c and not set aside
abbrev pub is_open_in : ℕ → ℕ → Option Spot → Bool
is_open_in c generation None = false
is_open_in c generation (Some o) = nat_eq o.tag generation && nat_eq (o.list % 2) 0 && nat_eq (o.list / 2) c

-- connection c began the transaction, and it is not set aside
abbrev pub is_open : Listing → ℕ → Key → Bool
is_open begun c k = is_open_in c k.generation (spot_at begun k.process)

-- the spot has this generation as its tag, and is of one that is set aside
abbrev pub is_aside_in : ℕ → Option Spot → Bool
is_aside_in generation None = false
is_aside_in generation (Some o) = nat_eq o.tag generation && nat_eq (o.list % 2) 1

-- the transaction is set aside: a connection began it, and it is ending
abbrev pub is_aside : Listing → Key → Bool
is_aside begun k = is_aside_in k.generation (spot_at begun k.process)

-- the transaction of the slot that has this spot
abbrev pub key_in : ℕ → Option Spot → Key
key_in p None = record { process = p; generation = 0 }
key_in p (Some o) = record { process = p; generation = o.tag }

-- the last transaction of the slot, if it is a connection's
abbrev pub last_of : Listing → ℕ → Key
last_of begun p = key_in p (spot_at begun p)

-- the connection began the transaction, and it was not dropped since
abbrev pub IsOf : Listing → ℕ → Key → Type 0
IsOf begun c k = connection_of begun k ≡ Some c

-- with the transaction first in this list
abbrev pub listed : Listing → ℕ → Key → Listing
listed begun n k = given (freed begun k.process) (record { list = n; tag = k.generation }) k.process

-- with the transaction as one of connection c
abbrev pub begun_by : Listing → ℕ → Key → Listing
begun_by begun c k = listed begun (open_list c) k

-- with the transaction of connection c set aside
abbrev pub set_aside : Listing → ℕ → Key → Listing
set_aside begun c k = listed begun (aside_list c) k

-- with the transaction set aside, if it is a connection's
abbrev pub aside_by : Listing → Key → Option ℕ → Listing
aside_by begun k None = begun
aside_by begun k (Some c) = set_aside begun c k

abbrev pub now_aside : Listing → Key → Listing
now_aside begun k = aside_by begun k (connection_of begun k)

-- a process is in this list
abbrev pub has_first : Listing → ℕ → Bool
has_first begun n = is_some (head (list_at begun n))

-- a process is in one of the lists of connection c
abbrev pub has_any : Listing → ℕ → Bool
has_any begun c = has_first begun (open_list c) || has_first begun (aside_list c)
