-- What contracts see of a table, and how its parts are read. A list by process has the process's number as position; one by resource, that of the resource.
use Rattle.std.specs.Prelude.{ℕ, ◌≤◌, ◌<◌, ◌^◌, ◌≡◌, Bool, false, ◌&&◌, List, [], length, replicate, Option, None, map, filter, find, option_map, option_and_then, is_some, nat_eq, if◌then◌else◌, slice_index, slice_index_or}
use Rattle.std.specs.List.{range_with_len}
use Rattle.std.specs.Option.{option_map_or}
use Rattle.mm_label.specs.Label.{Label, opening_label, word_of}
use Rattle.mm_limits.specs.declared.TheConstants.{MAX_PROCESSES, MAX_RESOURCES, MAX_WIDE_RESOURCES}
use Rattle.mm_rules.specs.declared.config.Config.{Config}
use Rattle.mm_arena.specs.declared.key.Key.{Key}
use Rattle.mm_rules.specs.declared.reply.Totals.{Totals}
use Rattle.mm_rules.specs.Graph.{Graph}

-- the numbers are in their ranges, where this many resources are the most
pub record IsWithin (most : ℕ) (c : Config) : Type 0 where
  pub processes : (1 ≤ c.processes) × (c.processes ≤ MAX_PROCESSES)
  pub resources : (1 ≤ c.resources) × (c.resources ≤ most)
  pub label_limit : (1 ≤ c.label_limit) × (c.label_limit < 2 ^ 44)
  pub generation_limit : 1 ≤ c.generation_limit

-- the numbers that a table may be opened with
abbrev pub IsInRange : Config → Type 0
IsInRange c = IsWithin MAX_RESOURCES c

-- the numbers that a table may be opened wide with
abbrev pub IsWide : Config → Type 0
IsWide c = IsWithin MAX_WIDE_RESOURCES c

-- a transaction that waits, and what for
pub record Wait : Type 0 where
  pub key : Key
  pub resource : ℕ

pub record TableState : Type 0 where
  pub config : Config
  pub generations : List ℕ  -- by process
  pub live : List Bool  -- by process: whether it has a live key, which then is that of its generation
  pub free : List ℕ  -- the free processes, in the order in which they will be given
  pub owners : List (Option Key)  -- by resource
  pub waits : List Wait  -- in order of arrival
  pub private : List Label  -- by process
  pub public : List Label  -- by process
  pub verdicts : List Bool  -- by process: whether its live key has a verdict
  pub totals : Totals  -- what was counted since the opening

abbrev pub opening : Config → TableState
opening c = record {
  config = c;
  generations = replicate c.processes 1;
  live = replicate c.processes false;
  free = range_with_len 0 c.processes;
  owners = replicate c.resources None;
  waits = [];
  private = map opening_label (range_with_len 0 c.processes);
  public = map opening_label (range_with_len 0 c.processes);
  verdicts = replicate c.processes false;
  totals = record { accepted = 0; verdicts = 0; aborts = 0 };
}

-- there is one place for each process, and one for each resource
pub record IsSized (s : TableState) : Type 0 where
  pub generations : length s.generations ≡ s.config.processes
  pub live : length s.live ≡ s.config.processes
  pub private : length s.private ≡ s.config.processes
  pub public : length s.public ≡ s.config.processes
  pub verdicts : length s.verdicts ≡ s.config.processes
  pub owners : length s.owners ≡ s.config.resources

-- ---- transactions

-- the key that process n has, or will have next
abbrev pub key_of : TableState → ℕ → Key
key_of s n = record { process = n; generation = slice_index s.generations n }

abbrev pub is_live : TableState → Key → Bool
is_live s k = slice_index_or s.live k.process false && nat_eq (slice_index s.generations k.process) k.generation

abbrev pub private_of : TableState → ℕ → Label
private_of s n = slice_index_or s.private n (opening_label n)

abbrev pub public_of : TableState → ℕ → Label
public_of s n = slice_index_or s.public n (opening_label n)

abbrev pub has_verdict : TableState → ℕ → Bool
has_verdict s n = slice_index_or s.verdicts n false

-- ---- owners and waits

abbrev pub owner_of : TableState → ℕ → Option Key
owner_of s r = slice_index_or s.owners r None

abbrev pub owns : TableState → ℕ → ℕ → Bool
owns s n r = option_map_or (λ k. nat_eq k.process n) (owner_of s r) false

-- the resources of process n, rising
abbrev pub resources_of : TableState → ℕ → List ℕ
resources_of s n = filter (owns s n) (range_with_len 0 s.config.resources)

-- how many the key owns; none if it is not live
abbrev pub owned_count : TableState → Key → ℕ
owned_count s k = if is_live s k then length (resources_of s k.process) else 0

abbrev pub is_of : ℕ → Wait → Bool
is_of n w = nat_eq w.key.process n

-- what process n waits for, by these waits
abbrev pub waited_for : List Wait → ℕ → Option ℕ
waited_for waits n = option_map (λ w. w.resource) (find (is_of n) waits)

abbrev pub wait_of : TableState → ℕ → Option ℕ
wait_of s n = waited_for s.waits n

-- a live transaction that does not wait is active
abbrev pub is_waiting : TableState → ℕ → Bool
is_waiting s n = is_some (wait_of s n)

-- the waiting processes, rising
abbrev pub waiting_processes : TableState → List ℕ
waiting_processes s = filter (is_waiting s) (range_with_len 0 s.config.processes)

-- the holder of a waiting process: the owner of what it waits for
abbrev pub holder_of : TableState → ℕ → Option ℕ
holder_of s n = option_map (λ k. k.process) (option_and_then (owner_of s) (wait_of s n))

-- the queue of r: those that wait for it, the longest waiter first
abbrev pub waiters_of : TableState → ℕ → List Wait
waiters_of s r = filter (λ w. nat_eq w.resource r) s.waits

-- the waits; labels are compared as words
abbrev pub graph_of : TableState → Graph
graph_of s = record {
  processes = s.config.processes;
  holder = holder_of s;
  private = λ n. word_of (private_of s n);
  public = λ n. word_of (public_of s n);
}
