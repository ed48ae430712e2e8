-- The grants of a call, from the tables before and after it.
use Rattle.std.specs.Prelude.{◌≡◌, ◌≢◌, ℕ, Bool, false, List, Option, None, Some, option_and_then, if◌then◌else◌, nat_eq}
use Rattle.std.specs.Option.{option_map_or}
use Rattle.std.specs.List.{filter_map, range_with_len}
use Rattle.mm_arena.specs.declared.key.Key.{Key}
use Rattle.mm_lists.specs.Members.{Among}
use Rattle.mm_rules.specs.TableState.{TableState, owner_of, wait_of}
use Rattle.mm_settled.specs.declared.reply.Grant.{Grant}
use Rattle.mm_settled.specs.SettledState.{SettledState}

abbrev pub waits_for : TableState → ℕ → ℕ → Bool
waits_for s n r = option_map_or (nat_eq r) (wait_of s n) false

-- k, which owns r now, was granted it if it waited for it
abbrev pub to_waiter : TableState → ℕ → Key → Option Grant
to_waiter old r k = if waits_for old k.process r then Some (record { key = k; resource = r }) else None

abbrev pub grant_of : TableState → TableState → ℕ → Option Grant
grant_of old new r = option_and_then (to_waiter old r) (owner_of new r)

-- all that waited in old for what they own in new, by rising resource: this is the order in which a transaction that ends hands over
abbrev pub grants : TableState → TableState → List Grant
grants old new = filter_map (grant_of old new) (range_with_len 0 old.config.resources)

-- the list has the grants
pub record Tells (old : TableState) (new : SettledState) : Type 0 where
  pub granted : new.granted ≡ grants old new.table

-- m waited for what it owns now, and waits no longer
pub record WasGranted (old new : TableState) (g : Grant) : Type 0 where
  pub waited : wait_of old g.key.process ≡ Some g.resource
  pub owns : owner_of new g.resource ≡ Some g.key
  pub goes_on : wait_of new g.key.process ≡ None

-- the grants are the waits that ended, all but that of the caller's own process n
pub record EndsWaits (old new : TableState) (n : ℕ) (granted : List Grant) : Type 0 where
  pub each : (g : Grant) → Among g granted → WasGranted old new g
  pub all : (m r : ℕ) → m ≢ n → wait_of old m ≡ Some r → wait_of new m ≡ None → (g : Grant) × Among g granted × (g.key.process ≡ m) × (g.resource ≡ r)
