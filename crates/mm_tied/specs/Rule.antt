-- The rule of the table: word 16 is 0 if the lock is free, 1 if it is taken, and 2 if threads may sleep for it; slot 0 has the value.
use Rattle.std.specs.Prelude.{◌≡◌, ◌≢◌, ℕ, ◌<◌, ◌≤◌, List, [], ◌∷◌, length, slice_index}
use mathlib.Core.Option.{some}
use lib.ListN.{get_elem?}
use Rattle.atomic_table.specs.Table.{State, Me}
use Rattle.mm_tied.specs.declared.views.Told.{Told}
use Rattle.mm_tied.specs.declared.views.Stage.{Stage}
use Rattle.mm_tied.specs.declared.views.Stage.TheVariants.{Away, Holds}
use Rattle.mm_tied.specs.declared.views.View.{View}
use Rattle.mm_tied.specs.History.{Chain, Extends, StartsWith, calls_by, events_of, holding}

-- where the lock's word lies
abbrev pub lock_word : ℕ
lock_word = 16

module _ {S E : Type 0} (makes : S → E → S → Type 0) (first : S) (log : List (Told E)) (seat by : ℕ) where
  -- who has the lock knows the history, and found the state that it leads to
  abbrev pub Knows : Stage S E → Type 0
  Knows Away = Unit {0}
  Knows (Holds known found) = (by ≡ seat) × (known ≡ log) × Chain makes first (events_of log) found

  -- a pass has seen a beginning of the history; its own events are all that the history has of it
  pub record Fits (v : View S E) : Type 0 where
    pub mine : calls_by by log ≡ v.mine
    pub seen : StartsWith log v.seen
    pub stage : Knows v.stage

module _ {T S E : Type 0} (state : T → S) where
  -- there is one history; if the lock is free, nobody has it, and the value is at home, with the state to which the history leads
  pub record IsKept (makes : S → E → S → Type 0) (first : S) (s : State T (View S E)) : Type 0 where
    pub sized : lock_word < length s.words
    pub seat : ℕ
    pub log : List (Told E)
    pub fits : (by : ℕ) (v : View S E) → get_elem? s.views by ≡ some v → Fits makes first log seat by v
    pub fresh : (by : ℕ) → length s.views ≤ by → calls_by by log ≡ []
    pub free : slice_index s.words lock_word ≡ 0
        → ((m : T) × (get_elem? s.homes 0 ≡ some (some m)) × Chain makes first (events_of log) (state m)) × ((by : ℕ) (v : View S E) → get_elem? s.views by ≡ some v → v.stage ≡ Away)

  -- the lock was free and is the pass's, with the value in hand
  abbrev pub Found : View S E → Me T (View S E) → Type 0
  Found v now = (log : List (Told E)) × (m : T) × (now ≡ (holding v log (state m), (0, m) ∷ []))

  abbrev pub Taken : Me T (View S E) → ℕ → Me T (View S E) → Type 0
  Taken before found now = (found ≡ 0 → (log : List (Told E)) × (m : T) × (now ≡ (holding before.0 log (state m), (0, m) ∷ before.1))) × (found ≢ 0 → now ≡ before)

module _ {T S E : Type 0} (makes : S → E → S → Type 0) where
  abbrev pub Noted : S → ℕ → List E → Me T (View S E) → Me T (View S E) → Type 0
  Noted first id es before now = Extends makes first id before.0 es now.0 × (now.1 ≡ [])

module _ {T S E : Type 0} (state : T → S) (makes : S → E → S → Type 0) where
  -- a pass has the lock, and the events lead from the state that it found to that of the value in its hand
  abbrev pub Makes : List E → Me T (View S E) → Type 0
  Makes es me = (log : List (Told E)) × (found : S) × (value : T) × (me.0.stage ≡ Holds log found) × (me.1 ≡ (0, value) ∷ []) × Chain makes found es (state value)
