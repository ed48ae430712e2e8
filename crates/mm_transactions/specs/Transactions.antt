-- What a contract sees of a `Transactions`.
use Rattle.std.specs.Prelude.{ℕ, ◌+◌, ◌<◌, Bool, true, false, not, ◌&&◌, List, [], ◌∷◌, length, map, filter, drop, replicate, Option, None, Some, if◌then◌else◌, nat_eq, nat_lt, slice_index, slice_index_or, slice_set, IsTrue}
use Rattle.std.specs.List.{range_with_len}
use Rattle.std.specs.Option.{option_map}
use Rattle.mm_arena.specs.declared.key.Key.{Key}
use Rattle.mm_lists.specs.Members.{Among, NoRepeat, head}
use Rattle.mm_rules.specs.TableState.{Wait, is_of, waited_for}
use Rattle.mm_transactions.specs.declared.transaction.Transaction.{Transaction}

pub record Transactions : Type 0 where
  pub generations : List ℕ  -- by process
  pub live : List Bool  -- by process: whether it has a live key, which then is that of its generation
  pub free : List ℕ  -- the free processes, in the order in which they will be given
  pub verdicts : List Bool  -- by process: whether its live key has a verdict
  pub waits : List Wait  -- in order of arrival
  pub latest : ℕ  -- the number of the latest arrival
  pub resources : ℕ
  pub generation_limit : ℕ

-- no transaction yet, for this many processes and resources, and with this last generation
abbrev pub opening : ℕ → ℕ → ℕ → Transactions
opening processes resources limit = record {
  generations = replicate processes 1;
  live = replicate processes false;
  free = range_with_len 0 processes;
  verdicts = replicate processes false;
  waits = [];
  latest = 0;
  resources = resources;
  generation_limit = limit;
}

-- ---- transactions

-- the key that process n has, or will have next
abbrev pub key_of : Transactions → ℕ → Key
key_of t n = record { process = n; generation = slice_index t.generations n }

abbrev pub is_live : Transactions → Key → Bool
is_live t k = slice_index_or t.live k.process false && nat_eq (slice_index t.generations k.process) k.generation

-- the live key of process n
abbrev pub tenant_of : Transactions → ℕ → Option Key
tenant_of t n = if slice_index_or t.live n false then Some (key_of t n) else None

abbrev pub verdict_of : Transactions → ℕ → Bool
verdict_of t n = slice_index_or t.verdicts n false

-- what is known of a live transaction
abbrev pub told : Transactions → Key → Option Transaction
told t k = if is_live t k then Some (record { waits_for = waited_for t.waits k.process; has_verdict = verdict_of t k.process }) else None

-- the first free process gets a live key
abbrev pub begun : Transactions → Transactions
begun t = record t { free = drop 1 t.free; live = slice_set t.live (slice_index t.free 0) true }

-- process n is the first of the free ones, under its next generation; at the last generation it is retired
abbrev pub freed : Transactions → ℕ → Transactions
freed t n =
    let generation = slice_index t.generations n in
    let left = record t { live = slice_set t.live n false } in
    if nat_lt generation t.generation_limit
    then record left { generations = slice_set t.generations n (generation + 1); free = n ∷ t.free }
    else left

-- ---- waits

-- those that wait for r, in order of arrival
abbrev pub queue_of : List Wait → ℕ → List Wait
queue_of ws r = filter (λ w. nat_eq w.resource r) ws

-- the key of the first of these
abbrev pub first_key : List Wait → Option Key
first_key ws = option_map (λ w. w.key) (head ws)

-- n waits no longer
abbrev pub without_wait : Transactions → ℕ → Transactions
without_wait t n = record t { waits = filter (λ w. not (is_of n w)) t.waits }

-- who waits is live, waits once, and for a resource that there is
pub record WaitsAreLawful (t : Transactions) : Type 0 where
  pub live : (w : Wait) → Among w t.waits → IsTrue (is_live t w.key)
  pub once : NoRepeat (map (λ w. w.key.process) t.waits)
  pub in_range : (w : Wait) → Among w t.waits → (w.key.process < length t.live) × (w.resource < t.resources)
