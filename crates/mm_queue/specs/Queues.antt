-- What a contract sees of a `Lists`.
use Rattle.std.specs.Option.{option_map}
use Rattle.std.specs.Prelude.{◌≡◌, ℕ, ◌<◌, List, [], ◌∷◌, ◌++◌, map, Option, replicate, slice_index_or, slice_set}
use Rattle.mm_arena.specs.declared.key.Key.{Key}
use Rattle.mm_lists.specs.Members.{Among, NoRepeat, head}

-- the keys of each list, in order, and how many processes there are
pub record Queues : Type 0 where
  pub lists : List (List Key)
  pub processes : ℕ

-- the keys of one list
abbrev pub queue : Queues → ℕ → List Key
queue q list = slice_index_or q.lists list []

-- this many lists without keys, for this many processes
abbrev pub empty_queues : ℕ → ℕ → Queues
empty_queues lists processes = record { lists = replicate lists []; processes = processes }

-- with these keys in one list
abbrev pub with_queue : Queues → ℕ → List Key → Queues
with_queue q list keys = record q { lists = slice_set q.lists list keys }

-- the key stands in some list
abbrev pub Stands : Queues → Key → Type 0
Stands q key = (list : ℕ) × Among key (queue q list)

-- a key of this process stands in some list
abbrev pub IsOccupied : Queues → ℕ → Type 0
IsOccupied q process = (key : Key) × (key.process ≡ process) × Stands q key

-- wherever the key stands in a list, this follows it
abbrev pub IsNextKey : Queues → Key → Option Key → Type 0
IsNextKey q key next =
    (list : ℕ) (before after : List Key) → queue q list ≡ before ++ key ∷ after → next ≡ head after

-- wherever a key of this process stands in a list, `next` is the process of the one that follows it
abbrev pub IsNextProcess : Queues → ℕ → Option ℕ → Type 0
IsNextProcess q process next =
    (list : ℕ) (before : List Key) (key : Key) (after : List Key) → queue q list ≡ before ++ key ∷ after → key.process ≡ process → next ≡ option_map (λ k. k.process) (head after)

-- wherever the key stood in a list, it is gone from there, and nothing else has changed
abbrev pub Removes : Queues → Queues → Key → Type 0
Removes old new key =
    (list : ℕ) (before after : List Key) → queue old list ≡ before ++ key ∷ after → new ≡ with_queue old list (before ++ after)

-- a process stands in at most one list, once, and is one of those that there are
pub record StandsOnce (q : Queues) : Type 0 where
  pub one_list : (a b : ℕ) (j k : Key) → Among j (queue q a) → Among k (queue q b) → j.process ≡ k.process → a ≡ b
  pub no_repeat : (list : ℕ) → NoRepeat (map (λ key. key.process) (queue q list))
  pub in_range : (list : ℕ) (key : Key) → Among key (queue q list) → key.process < q.processes
