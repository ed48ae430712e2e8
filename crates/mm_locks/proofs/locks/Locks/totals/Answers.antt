use Rattle.std.proofs.Common.{rules, refl}
use Rattle.mm_locks.proofs.Behind.{in_hand, no_event}
use Rattle.mm_locks.proofs.locks.Locks.totals.Goals as goal

pub slot_mut-requires : goal.slot_mut-requires
slot_mut-requires g c = (search rules, in_hand c.pass-pass.result.me.0 c.take_by_clock.new.pass.me c.take_by_clock.ensures.found)

pub put-requires-clause-made : goal.put-requires-clause-made
put-requires-clause-made g c = no_event c.pass-pass.result.me.0 c.take_by_clock.new.pass.me c.take_by_clock.ensures.found c.slot_mut.result.now c.slot_mut.result.now c.slot_mut.ensures.value refl
