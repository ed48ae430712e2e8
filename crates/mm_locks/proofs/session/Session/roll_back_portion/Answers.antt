use Rattle.std.proofs.Common.{ℕ, rules, sym, subst}
use Rattle.mm_locks.specs.declared.history.Event.TheVariants as event
use Rattle.mm_locks.specs.History.{Makes}
use Rattle.mm_locks.proofs.Behind.{in_hand, one_event}
use Rattle.mm_locks.proofs.session.Session.roll_back_portion.Goals as goal

pub slot_mut-requires : goal.slot_mut-requires
slot_mut-requires g c = (search rules, in_hand c.args.self.now.pass.me.0 c.take_by_clock.new.pass.me c.take_by_clock.ensures.found)

pub put-requires-clause-made : goal.put-requires-clause-made
put-requires-clause-made g c =
    let hall = c.slot_mut.result.now in
    let after = c.roll_back-is_over.new.self in
    let told = subst (λ (at : ℕ). Makes hall.desk (event.RolledBack at c.roll_back-is_over.result) after.desk) (sym c.at-at.ensures) (c.roll_back-is_over.ensures.rolls_back, c.roll_back-is_over.ensures.hands) in
    one_event c.args.self.now.pass.me.0 c.take_by_clock.new.pass.me c.take_by_clock.ensures.found hall after (event.RolledBack c.at-at.result c.roll_back-is_over.result) c.slot_mut.ensures.value told
