-- A transaction that begins has one of the slots.
use Rattle.std.proofs.Common.{◌<◌, Ok, ap, arith}
use Rattle.mm_arena.specs.declared.key.Key.{Key}
use Rattle.mm_rules.specs.Event.{Begin}
use Rattle.mm_rules.proofs.States.Config.{event_config}
use Rattle.mm_rules.proofs.States.Keys.{keys_are_fresh}
use Rattle.mm_manager.specs.Calls as calls
use Rattle.mm_manager.specs.LockState.{LockState, IsLawful}

pub begun_within : (old new : LockState) (k : Key) → calls.Begins old (Ok k) new → IsLawful old → IsLawful new → k.process < old.table.config.processes
begun_within old new k did lawful after =
    let live = (keys_are_fresh old.table new.table k did.1 lawful.laws).1 in
    let config = event_config Begin old.table new.table (Ok k) did.1 in
    omega (arith, after.slots k live, ap (λ c. c.processes) config)
