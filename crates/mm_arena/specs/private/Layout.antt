-- How an `Arena` lays out its slots.
use Rattle.std.specs.Prelude.{◌≡◌, ◌≢◌, ⊤, ℕ, zero, suc, ◌+◌, ◌-◌, ◌<◌, ◌≤◌, List, [], ◌∷◌, ◌++◌, map, length, Option, Some, None, count_by, All, slice_get, is_some}
use Rattle.std.specs.List.{range_with_len, AllByRecursion}
use Rattle.mm_arena.specs.declared.arena.TheConstants.{MAX_CAPACITY}
use Rattle.mm_arena.specs.declared.arena.Arena.TheInside.{Inside}
use Rattle.mm_arena.specs.Slots.{Slots, Place}
use Rattle.mm_arena.specs.declared.slot.Slot.{Slot}
use Rattle.mm_arena.specs.declared.slot.State.{State}
use Rattle.mm_arena.specs.declared.slot.State.TheVariants.{Free, Live, Retired}

-- the fields of an arena
pub record Fields (T : Type 0) : Type 0 where
  pub slots : List (Slot T)
  pub newest : Option ℕ
  pub unused : ℕ
  pub live : ℕ
  pub limit : ℕ

abbrev pub fields_of : {T : Type 0} → Inside T → Fields T
fields_of a = record {
  slots = a.slots.items;
  newest = a.newest;
  unused = a.unused;
  live = a.live;
  limit = a.generation_limit;
}

module _ {T : Type 0} where
  -- a slot with this generation and state, as a contract sees it
  abbrev pub place_in : ℕ → State T → Place T
  place_in generation (Free next) = record { generation = generation; value = None }
  place_in generation (Live value) = record { generation = generation; value = Some value }
  place_in generation Retired = record { generation = generation; value = None }

  abbrev pub place_of : Slot T → Place T
  place_of slot = place_in slot.generation slot.state

  -- the slot that a free slot leads to
  abbrev pub link_in : State T → Option ℕ
  link_in (Free next) = next
  link_in (Live value) = None
  link_in Retired = None

  abbrev pub link_of : Option (Slot T) → Option ℕ
  link_of None = None
  link_of (Some slot) = link_in slot.state

  -- the processes along the links from a first one, this many at most
  abbrev pub walk : List (Slot T) → ℕ → Option ℕ → List ℕ
  walk slots zero first = []
  walk slots (suc most) None = []
  walk slots (suc most) (Some process) =
      process ∷ walk slots most (link_of (slice_get slots process))

  -- what a contract sees of an arena with these fields: the freed processes come before those that
  -- were never used
  abbrev pub seen : Fields T → Slots T
  seen f = record {
    places = map place_of f.slots;
    free = walk f.slots (length f.slots) f.newest ++ range_with_len f.unused (length f.slots - f.unused);
    limit = f.limit;
  }

  -- the state is free
  abbrev pub IsFree : State T → Type 0
  IsFree (Free next) = ⊤
  IsFree (Live value) = ⊥
  IsFree Retired = ⊥

  -- the state is live
  abbrev pub IsLive : State T → Type 0
  IsLive (Free next) = ⊥
  IsLive (Live value) = ⊤
  IsLive Retired = ⊥

  -- there is a slot, and it is free
  abbrev pub HasFree : Option (Slot T) → Type 0
  HasFree None = ⊥
  HasFree (Some slot) = IsFree slot.state

  -- the process is free, was used, and is not among the later ones
  pub record IsLink (slots : List (Slot T)) (unused process : ℕ) (later : List ℕ) : Type 0 where
    pub free : HasFree (slice_get slots process)
    pub used : process < unused
    pub once : AllByRecursion (λ other. other ≢ process) later

  -- the links from `first` on give these processes
  abbrev pub IsChain : List (Slot T) → ℕ → List ℕ → Option ℕ → Type 0
  IsChain slots unused [] first = first ≡ None
  IsChain slots unused (process ∷ later) first =
      (first ≡ Some process) × IsLink slots unused process later
      × IsChain slots unused later (link_of (slice_get slots process))

  -- the slot's generation is one that a key may have
  abbrev pub IsInLimit : ℕ → Slot T → Type 0
  IsInLimit limit slot = (1 ≤ slot.generation) × (slot.generation ≤ limit)

  -- the links give the freed slots, the slots from `unused` on are free, and `live` counts the live ones
  pub record IsLaidOut (f : Fields T) : Type 0 where
    pub freed : List ℕ
    pub linked : IsChain f.slots f.unused freed f.newest
    pub untouched : (process : ℕ) → f.unused ≤ process → process < length f.slots → HasFree (slice_get f.slots process)
    pub within : f.unused ≤ length f.slots
    pub counted : f.live ≡ count_by (λ place. is_some place.value) (map place_of f.slots)
    pub room : f.live + length freed ≤ length f.slots
    pub generations : All (IsInLimit f.limit) f.slots
    pub size : length f.slots ≤ MAX_CAPACITY
