-- How far a walk through a queue has come.
use Rattle.std.specs.Prelude.{◌≡◌, ℕ, List, ◌∷◌, ◌++◌, map, Option}
use Rattle.std.specs.Option.{option_map}
use Rattle.mm_lists.specs.Members.{NoRepeat}
use Rattle.mm_lists.specs.Walk.{first_number, rest_from}
use Rattle.mm_rules.specs.TableState.{Wait}
use Rattle.mm_transactions.specs.Transactions.{queue_of, first_key}

-- wherever a wait of this process stands in a queue, `next` is the process of the one that follows it
abbrev pub IsNextWaiter : List Wait → ℕ → Option ℕ → Type 0
IsNextWaiter ws process next =
    (r : ℕ) (before : List Wait) (w : Wait) (after : List Wait) → queue_of ws r ≡ before ++ w ∷ after → w.key.process ≡ process → next ≡ option_map (λ k. k.process) (first_key after)

abbrev pub process : Wait → ℕ
process w = w.key.process

-- what is left of a queue from this process on
abbrev pub left_from : List Wait → Option ℕ → List Wait
left_from queue next = rest_from process queue next

-- its processes
abbrev pub processes_from : List Wait → ℕ → Option ℕ → List ℕ
processes_from waits r next = map process (left_from (queue_of waits r) next)

-- the walk has come to `next`, the process of the first of what is left
pub record IsAt (queue : List Wait) (next : Option ℕ) (left : List Wait) : Type 0 where
  pub passed : List Wait
  pub whole : queue ≡ passed ++ left
  pub first : next ≡ first_number process left

-- the same, of the queue of r among waits of which no two are of one process
pub record StandsAt (waits : List Wait) (r : ℕ) (next : Option ℕ) : Type 0 where
  pub at : IsAt (queue_of waits r) next (left_from (queue_of waits r) next)
  pub once : NoRepeat (map process waits)
