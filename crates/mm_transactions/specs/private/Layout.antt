-- What the fields of a `Transactions` stand for, and what holds of them.
use Rattle.std.specs.Prelude.{◌≡◌, ℕ, ◌+◌, ◌<◌, ◌≤◌, Bool, false, List, [], ◌∷◌, length, map, Option, None, Some, is_some, option_and_then, slice_index_or}
use Rattle.std.specs.Option.{option_map, option_map_or}
use Rattle.std.specs.List.{filter_map}
use Rattle.mm_arena.specs.declared.key.Key.{Key}
use Rattle.mm_arena.specs.Slots.{Slots, Place}
use Rattle.mm_links.specs.Link.{none_number}
use Rattle.mm_lists.specs.Order.{in_order}
use Rattle.mm_queue.specs.Queues.{Queues, queue}
use Rattle.mm_rules.specs.TableState.{Wait}
use Rattle.mm_transactions.specs.declared.transaction.Entry.{Entry}
use Rattle.mm_transactions.specs.Transactions.{Transactions, queue_of}

-- a wait, and the number of its arrival
pub record Arrival : Type 0 where
  pub wait : Wait
  pub number : ℕ

-- what the transaction under this key waits for, and the number of its arrival, which is that of its process
abbrev pub arrival_of : List ℕ → Key → Entry → Option Arrival
arrival_of numbers k e = option_map (λ r. record { wait = record { key = k; resource = r }; number = slice_index_or numbers k.process 0 }) e.waits_for

-- the same of the transaction in the slot of process n
abbrev pub arrival_in : List ℕ → ℕ → Place Entry → Option Arrival
arrival_in numbers n p = option_and_then (arrival_of numbers (record { process = n; generation = p.generation })) p.value

-- those of processes from n on, by process
abbrev pub arrivals_from : List ℕ → ℕ → List (Place Entry) → List (Option Arrival)
arrivals_from numbers n [] = []
arrivals_from numbers n (p ∷ ps) = arrival_in numbers n p ∷ arrivals_from numbers (n + 1) ps

-- the waits that there are, in order of arrival
abbrev pub waits_of : List (Option Arrival) → List Wait
waits_of arrivals = map (λ a. a.wait) (in_order (λ a. a.number) (filter_map (λ o. o) arrivals))

-- whether the transaction in a slot has a verdict
abbrev pub verdict_in : Place Entry → Bool
verdict_in p = option_map_or (λ (e : Entry). e.has_verdict) p.value false

-- what a contract sees of the fields
abbrev pub seen : List ℕ → Slots Entry → Queues → ℕ → Transactions
seen numbers slots queues latest = record {
  generations = map (λ p. p.generation) slots.places;
  live = map (λ p. is_some p.value) slots.places;
  free = slots.free;
  verdicts = map verdict_in slots.places;
  waits = waits_of (arrivals_from numbers 0 slots.places);
  latest = latest;
  resources = length queues.lists;
  generation_limit = slots.limit;
}

-- the keys of those that wait for r, in order of arrival
abbrev pub keys_for : ℕ → List Wait → List Key
keys_for r ws = map (λ w. w.key) (queue_of ws r)

-- each queue has the keys of those that wait for its resource, in order of arrival
abbrev pub IsLinked : Queues → List Wait → Type 0
IsLinked queues ws = (r : ℕ) → r < length queues.lists → queue queues r ≡ keys_for r ws

-- what holds of the wait of each process
abbrev pub Each : (Arrival → Type 0) → List (Option Arrival) → Type 0
Each P arrivals = (n : ℕ) (a : Arrival) → slice_index_or arrivals n None ≡ Some a → P a

-- the fields keep what a contract sees of them
pub record IsConsistent (numbers : List ℕ) (slots : Slots Entry) (queues : Queues) (latest waiting : ℕ) : Type 0 where
  pub sized : length slots.places ≡ queues.processes
  pub as_many : length numbers ≡ length slots.places
  pub few : queues.processes ≤ 1048576
  pub few_lists : length queues.lists ≤ none_number
  pub in_range : Each (λ a. a.wait.resource < length queues.lists) (arrivals_from numbers 0 slots.places)
  pub numbered : Each (λ a. a.number ≤ latest) (arrivals_from numbers 0 slots.places)
  pub linked : IsLinked queues (waits_of (arrivals_from numbers 0 slots.places))
  pub counted : waiting ≡ length (waits_of (arrivals_from numbers 0 slots.places))
