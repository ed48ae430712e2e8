-- How the fields of a `Lists` keep its queues.
use Rattle.std.specs.Prelude.{◌≡◌, ◌≤◌, ◌↔◌, ℕ, List, length, map, Option, None, Some, slice_index_or}
use Rattle.std.specs.Option.{option_map}
use Rattle.mm_arena.specs.declared.key.Key.{Key}
use Rattle.mm_arena.specs.Shelf.{Entries, entry_at}
use Rattle.mm_lists.specs.Members.{Among, NoRepeat}
use Rattle.mm_links.specs.declared.links.Links.{Links}
use Rattle.mm_links.specs.Links.{unlinked}
use Rattle.mm_links.specs.Chain.{head_or, last_or, walk, IsChain}
use Rattle.mm_queue.specs.declared.standing.Standing.{Standing}
use Rattle.mm_queue.specs.declared.ends.Ends.{Ends}
use Rattle.mm_queue.specs.Queues.{Queues, queue}

-- a key of this process has an entry
abbrev pub HasEntry : Entries Standing → ℕ → Type 0
HasEntry s process = option_map (λ e. e.0.process) (entry_at s process) ≡ Some process

-- the links of what a process has
abbrev pub links_in : Option (Key × Standing) → Links
links_in None = unlinked
links_in (Some e) = e.1.links

-- its key, and the list in which that stands
abbrev pub tag_in : Option (Key × Standing) → Option (Key × ℕ)
tag_in None = None
tag_in (Some e) = Some (e.0, e.1.list)

-- the links of each process
abbrev pub links_of : Entries Standing → List Links
links_of s = map links_in s

-- the key of each process, and the list in which that stands
abbrev pub tags_of : Entries Standing → List (Option (Key × ℕ))
tags_of s = map tag_in s

-- those of one process
abbrev pub tag_at : List (Option (Key × ℕ)) → ℕ → Option (Key × ℕ)
tag_at tags process = slice_index_or tags process None

-- the key of a process, if it has one
abbrev pub key_in : ℕ → Option (Key × ℕ) → Key
key_in process None = record { process = process; generation = 0 }
key_in process (Some tag) = tag.0

-- the processes of keys
abbrev pub processes_of : List Key → List ℕ
processes_of keys = map (λ key. key.process) keys

-- the ends of a list of these keys
abbrev pub ends_of : List Key → Ends
ends_of keys = record { front = head_or (processes_of keys) None; back = last_or None (processes_of keys); len = length keys }

-- the keys from the first one of a list on
abbrev pub keys_along : List Links → List (Option (Key × ℕ)) → Ends → List Key
keys_along links tags ends = map (λ process. key_in process (tag_at tags process)) (walk links ends.len ends.front)

-- what a contract sees of the fields
abbrev pub seen : List Ends → Entries Standing → Queues
seen ends s = record { lists = map (keys_along (links_of s) (tags_of s)) ends; processes = length s }

-- the ends, the links and the tags keep these queues
pub record AreLinked (q : Queues) (ends : List Ends) (links : List Links) (tags : List (Option (Key × ℕ))) : Type 0 where
  pub at_ends : ends ≡ map ends_of q.lists
  pub chains : (list : ℕ) → IsChain links None (processes_of (queue q list)) None
  pub no_repeat : (list : ℕ) → NoRepeat (processes_of (queue q list))
  pub tagged : (list : ℕ) (key : Key) → Among key (queue q list) ↔ (tag_at tags key.process ≡ Some (key, list))
  pub own : (process : ℕ) (key : Key) (list : ℕ) → tag_at tags process ≡ Some (key, list) → key.process ≡ process
  pub many_links : length links ≡ q.processes
  pub many_tags : length tags ≡ q.processes
  pub small : q.processes ≤ 1048576

-- the fields keep what a contract sees of them
abbrev pub AreConsistent : List Ends → Entries Standing → Type 0
AreConsistent ends s = AreLinked (seen ends s) ends (links_of s) (tags_of s)
