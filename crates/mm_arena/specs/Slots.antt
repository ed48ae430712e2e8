-- What a contract sees of an `Arena`.
use Rattle.std.specs.Prelude.{◌≡◌, ◌≢◌, ℕ, ◌+◌, ◌<◌, ◌≤◌, List, [], ◌∷◌, length, Option, Some, None, is_some, IsSome, ◌==◌, nat_lt, if◌then◌else◌, count_by, replicate, slice_get, slice_index_or, slice_set}
use Rattle.std.specs.Option.{option_map}
use Rattle.std.specs.List.{range_with_len}
use Rattle.mm_arena.specs.declared.key.Key.{Key}

-- a process's slot: the generation of its key, and its value if it is live
pub record Place (T : Type 0) : Type 0 where
  pub generation : ℕ
  pub value : Option T

-- the slots by process, the free processes in the order in which they will be given, and the last generation that a key may have
pub record Slots (T : Type 0) : Type 0 where
  pub places : List (Place T)
  pub free : List ℕ
  pub limit : ℕ

module _ {T : Type 0} where
  -- a slot that was never used
  abbrev pub never_used : Place T
  never_used = record { generation = 1; value = None }

  -- an arena that was never used
  abbrev pub opening_slots : ℕ → ℕ → Slots T
  opening_slots capacity limit =
      record { places = replicate capacity never_used; free = range_with_len 0 capacity; limit = limit }

  -- the slot of a process
  abbrev pub place_at : Slots T → ℕ → Place T
  place_at s process = slice_index_or s.places process never_used

  -- the slot's value, if its key has this generation
  abbrev pub value_under : ℕ → Place T → Option T
  value_under generation place = if place.generation == generation then place.value else None

  -- the value under a key, if the key is live
  abbrev pub lookup : Slots T → Key → Option T
  lookup s key = value_under key.generation (place_at s key.process)

  -- the key is live
  abbrev pub IsLive : Slots T → Key → Type 0
  IsLive s key = IsSome (lookup s key)

  -- the key that a process has, or is given next
  abbrev pub key_of : Slots T → ℕ → Key
  key_of s process = record { process = process; generation = (place_at s process).generation }

  -- the live key of a process
  abbrev pub live_key : Slots T → ℕ → Option Key
  live_key s process = option_map (λ _. key_of s process) (place_at s process).value

  -- the key that the next insert gives, if a slot is free
  abbrev pub next_key : Slots T → Option Key
  next_key s = option_map (key_of s) (slice_get s.free 0)

  -- how many keys are live
  abbrev pub live_count : Slots T → ℕ
  live_count s = count_by (λ place. is_some place.value) s.places

  -- with this value under a live key
  abbrev pub with_value : Slots T → Key → T → Slots T
  with_value s key value = record s { places = slice_set s.places key.process (record { generation = key.generation; value = Some value }) }

  -- with the value in the first of these free processes
  abbrev pub filled : Slots T → T → List ℕ → Slots T
  filled s value [] = s
  filled s value (process ∷ rest) = record (with_value s (key_of s process) value) { free = rest }

  -- after `insert(value)`
  abbrev pub inserted : Slots T → T → Slots T
  inserted s value = filled s value s.free

  -- with a live key's slot freed: it is the first to be given again, under the next generation
  abbrev pub freed : Slots T → Key → Slots T
  freed s key = record s {
    places = slice_set s.places key.process (record { generation = key.generation + 1; value = None });
    free = key.process ∷ s.free;
  }

  -- with a live key's slot retired: it is neither live nor free, and its generation stays
  abbrev pub retired : Slots T → Key → Slots T
  retired s key = record s { places = slice_set s.places key.process (record { generation = key.generation; value = None }) }

  -- with a live key's slot freed, or retired if the key had the last generation
  abbrev pub vacated : Slots T → Key → Slots T
  vacated s key = if nat_lt key.generation s.limit then freed s key else retired s key

  -- after `remove(key)`
  abbrev pub removed : Slots T → Key → Slots T
  removed s key = if is_some (lookup s key) then vacated s key else s

  -- the new slots have this under the key, and every other key is as it was
  pub record Updates (old new : Slots T) (key : Key) (value : Option T) : Type 0 where
    pub changed : lookup new key ≡ value
    pub others : (other : Key) → other ≢ key → lookup new other ≡ lookup old other

  -- an insert gave this key to the value: no other key changes
  pub record AddsKey (old new : Slots T) (key : Key) (value : T) : Type 0 where
    pub within : key.process < length old.places
    pub was_free : live_key old key.process ≡ None
    pub above_zero : 1 ≤ key.generation
    pub in_limit : key.generation ≤ old.limit
    pub updates : Updates old new key (Some value)
    pub count : live_count new ≡ live_count old + 1
    pub capacity : length new.places ≡ length old.places

  -- a remove took this key: no other key changes
  pub record DropsKey (old new : Slots T) (key : Key) : Type 0 where
    pub updates : Updates old new key None
    pub count : live_count new + 1 ≡ live_count old
    pub capacity : length new.places ≡ length old.places
