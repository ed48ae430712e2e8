-- Runs of calls of an arena, and what holds over each run.
use Rattle.std.specs.Prelude.{◌≡◌, ℕ, List, [], ◌∷◌, None, is_some, if◌then◌else◌}
use Rattle.mm_arena.specs.declared.key.Key.{Key}
use Rattle.mm_arena.specs.Slots.{Slots, opening_slots, lookup, IsLive, live_key, inserted, removed, with_value}

-- a call that may change the arena: an insert, a remove, or a write through `get_mut`
pub data Call (T : Type 0) : Type 0 where
  insert : T → Call T
  remove : Key → Call T
  write : Key → T → Call T

module _ {T : Type 0} where
  -- after one call
  abbrev pub after : Slots T → Call T → Slots T
  after s (insert value) = inserted s value
  after s (remove key) = removed s key
  after s (write key value) = if is_some (lookup s key) then with_value s key value else s

  -- after calls, the first of them first
  abbrev pub after_all : Slots T → List (Call T) → Slots T
  after_all s [] = s
  after_all s (call ∷ later) = after_all (after s call) later

-- a key that was removed is never live again, whatever calls came before and follow; if it had
-- the last generation, its process has no live key either
abbrev pub RemovedIsNeverLive : (T : Type 0) → Type 0
RemovedIsNeverLive T = (capacity limit : ℕ) (earlier later : List (Call T)) (key : Key)
    → let s = after_all (opening_slots capacity limit) earlier in
    let t = after_all (removed s key) later in
    IsLive s key → (lookup t key ≡ None) × (key.generation ≡ s.limit → live_key t key.process ≡ None)
