-- What the reading calls tell.
use Rattle.std.specs.Prelude.{◌≡◌, ◌⊎◌, ℕ, List, ◌++◌, length, drop, Option, Some, None, Ok, if◌then◌else◌, nat_le, option_map, slice_get}
use denote.Bor.{Bor}
use Rattle.mm_arena.specs.declared.key.Key.{Key}
use Rattle.mm_names.specs.Names.{name_of}
use Rattle.mm_rules.specs.Event.{tenant_of}
use Rattle.mm_manager.specs.LockState.{LockState, Owns}
use Rattle.mm_manager.specs.Reads.{HasStatus}
use Rattle.mm_manager.specs.declared.reply.Status.{Status}
use Rattle.pashkure.specs.Answer.{status_number}
use Rattle.pashkure.specs.Plain.{plain_key, plain_seen, plain_wake}
use Rattle.pashkure.specs.declared.plain.PlainKey.{PlainKey}
use Rattle.pashkure.specs.declared.plain.PlainSeen.{PlainSeen}
use Rattle.pashkure.specs.declared.plain.PlainWake.{PlainWake}

-- whose wait the last call ended, by index
abbrev pub wake_at : LockState → ℕ → Option PlainWake
wake_at m i = option_map plain_wake (slice_get m.granted i)

-- the transaction of a slot, and what it does
abbrev pub LooksAt : LockState → ℕ → Option (Key × Status) → Type 0
LooksAt m slot (Some told) = (tenant_of m.table slot ≡ Some told.0) × HasStatus m told.0 (Ok told.1)
LooksAt m slot None = tenant_of m.table slot ≡ None

-- what is told of a slot: the transaction in it and what it does, or 7
abbrev pub TellsLook : LockState → ℕ → PlainSeen → ℕ → PlainSeen → Type 0
TellsLook m slot old told new =
    ((k : Key) × (status : Status) × (tenant_of m.table slot ≡ Some k) × HasStatus m k (Ok status) × (told ≡ status_number status) × (new ≡ plain_seen k status))
    ⊎ ((tenant_of m.table slot ≡ None) × (told ≡ 7) × (new ≡ old))

-- the name of a number and its owner
abbrev pub HasName : LockState → ℕ → Option (Bor (List ℕ) × Key) → Type 0
HasName m n (Some told) = (name_of m.names n ≡ Some told.0.now) × Owns m told.1 told.0.now
HasName m n None = name_of m.names n ≡ None

-- what is in the room after a name was copied to its head, if it has room for that
abbrev pub filled : List ℕ → List ℕ → List ℕ
filled name room = if nat_le (length name) (length room) then name ++ drop (length name) room else room

-- what is told of a number: the length of its name, its bytes if there is room, and its owner; or 7
abbrev pub TellsName : LockState → ℕ → List ℕ → ℕ → PlainKey → ℕ → List ℕ → ℕ → PlainKey → Type 0
TellsName m n room count written told bytes len owner =
    ((name : List ℕ) × (k : Key) × (name_of m.names n ≡ Some name) × Owns m k name × (told ≡ 0) × (len ≡ length name) × (owner ≡ plain_key k) × (bytes ≡ filled name room))
    ⊎ ((name_of m.names n ≡ None) × (told ≡ 7) × (bytes ≡ room) × (len ≡ count) × (owner ≡ written))

-- what is told of a name: its owner, or 7
abbrev pub TellsOwner : LockState → List ℕ → PlainKey → ℕ → PlainKey → Type 0
TellsOwner m name written told owner =
    ((k : Key) × Owns m k name × (told ≡ 0) × (owner ≡ plain_key k)) ⊎ (((k : Key) → ¬ Owns m k name) × (told ≡ 7) × (owner ≡ written))
