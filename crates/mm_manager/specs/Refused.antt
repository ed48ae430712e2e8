-- What each refusal means. A refused call changes nothing, and tells of nobody.
use Rattle.std.specs.Prelude.{◌≡◌, ◌≢◌, ◌⊎◌, ℕ, true, false, List, Ok, Err}
use Rattle.mm_arena.specs.declared.key.Key.{Key}
use Rattle.mm_names.specs.Names.{IsRefusedAsFull}
use Rattle.mm_manager.specs.LockState.{LockState, Owns, has_all}
use Rattle.mm_manager.specs.Permit.{may_adopt, may_ask_for, may_request, may_wait}
use Rattle.mm_manager.specs.declared.refusal.Refusal.{Refusal}
use Rattle.mm_manager.specs.declared.refusal.Refusal.TheVariants.{NotOwner, NamesFull, TooManyNames, LabelsFull}

-- k may ask for the name, and would own one more by it, but owns as many as a transaction may
abbrev pub IsOneTooMany : LockState → Key → List ℕ → Type 0
IsOneTooMany m k name = (may_request m.table m.names.name_bytes k name ≡ Ok tt) × (has_all m k ≡ true) × ¬ Owns m k name

-- k may ask for the name, and may own one more
abbrev pub MayGet : LockState → Key → List ℕ → Type 0
MayGet m k name = (may_request m.table m.names.name_bytes k name ≡ Ok tt) × (has_all m k ≡ false)

-- a try: k may not ask for the name; or it owns as many as it may; or the name is new, and all numbers are taken
abbrev pub TryRefused : LockState → Key → List ℕ → Refusal → Type 0
TryRefused m k name refusal =
    (may_request m.table m.names.name_bytes k name ≡ Err refusal)
    ⊎ ((refusal ≡ TooManyNames) × IsOneTooMany m k name)
    ⊎ ((refusal ≡ NamesFull) × MayGet m k name × IsRefusedAsFull m.names name)

-- a request: as a try; or k would wait for another one, and there may be no label left for that
abbrev pub LockRefused : LockState → Key → List ℕ → Refusal → Type 0
LockRefused m k name refusal =
    TryRefused m k name refusal ⊎ ((refusal ≡ LabelsFull) × MayGet m k name × (may_wait m.table m.totals ≡ false) × ((h : Key) × (h ≢ k) × Owns m h name))

-- an adoption: k may not be given the name; or the name is new, and all numbers are taken
abbrev pub AdoptRefused : LockState → Key → List ℕ → Refusal → Type 0
AdoptRefused m k name refusal =
    (may_adopt m.table m.names.name_bytes k name ≡ Err refusal)
    ⊎ ((may_adopt m.table m.names.name_bytes k name ≡ Ok tt) × (refusal ≡ NamesFull) × IsRefusedAsFull m.names name)

-- an unlock: k may not ask; or it does not own the name
abbrev pub UnlockRefused : LockState → Key → List ℕ → Refusal → Type 0
UnlockRefused m k name refusal =
    (may_ask_for m.table m.names.name_bytes k name ≡ Err refusal) ⊎ ((may_ask_for m.table m.names.name_bytes k name ≡ Ok tt) × (refusal ≡ NotOwner) × ¬ Owns m k name)
