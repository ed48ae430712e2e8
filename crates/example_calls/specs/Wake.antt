-- The processes that a caller wakes.
use Rattle.std.specs.Prelude.{ℕ, List, Option, None, if◌then◌else◌}
use Rattle.std.specs.List.{filter_map}
use Rattle.mm_arena.specs.declared.key.Key.{Key}
use Rattle.mm_rules.specs.TableState.{TableState, is_waiting}
use Rattle.mm_rules.specs.Event.{tenant_of}

-- the key of process n, if it lives and waits for nothing
abbrev pub active_key : TableState → ℕ → Option Key
active_key s n = if is_waiting s n then None else tenant_of s n

-- those of these processes, in their order
abbrev pub active_keys : TableState → List ℕ → List Key
active_keys s ns = filter_map (active_key s) ns
