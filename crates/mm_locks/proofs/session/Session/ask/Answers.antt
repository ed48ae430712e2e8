use Rattle.std.proofs.Common.{rules}
use Rattle.mm_locks.specs.Calls.{found_of}
use Rattle.mm_locks.specs.declared.history.Event.TheVariants as event
use Rattle.mm_locks.proofs.Behind.{in_hand, one_event}
use Rattle.mm_locks.proofs.session.Session.ask.Goals as goal

pub slot_mut-requires : goal.slot_mut-requires
slot_mut-requires g c = (search rules, in_hand c.args.self.now.pass.me.0 c.take_by_clock.new.pass.me c.take_by_clock.ensures.found)

pub put-requires-clause-made : goal.put-requires-clause-made
put-requires-clause-made g c =
    one_event c.args.self.now.pass.me.0 c.take_by_clock.new.pass.me c.take_by_clock.ensures.found c.slot_mut.result.now c.ask-answer.new.self
    (event.Asked c.at-at.result c.args.name.now (found_of c.ask-answer.result)) c.slot_mut.ensures.value c.ask-answer.ensures.asks
