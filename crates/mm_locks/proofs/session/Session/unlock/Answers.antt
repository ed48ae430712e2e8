use Rattle.std.proofs.Common.{ℕ, rules, sym, subst}
use Rattle.mm_locks.specs.Calls.{UnlocksFor}
use Rattle.mm_tied.specs.Mutex.{opened}
use Rattle.mm_locks.specs.Told.{unlocked}
use Rattle.mm_locks.proofs.Behind.{in_hand, since, unlock_event}
use Rattle.mm_locks.proofs.Telling.{gave_back, handed_over}
use Rattle.mm_locks.proofs.session.Session.unlock.Goals as goal

pub slot_mut-requires : goal.slot_mut-requires
slot_mut-requires g c = (search rules, in_hand c.args.self.now.pass.me.0 c.take_by_clock.new.pass.me c.take_by_clock.ensures.found)

pub put-requires-clause-made : goal.put-requires-clause-made
put-requires-clause-made g c =
    let hall = c.slot_mut.result.now in
    let after = c.unlock-answer.new.self in
    let told = subst (λ (at : ℕ). UnlocksFor hall.desk at c.args.name.now c.unlock-answer.result after.desk) (sym c.at-at.ensures) c.unlock-answer.ensures.unlocks in
    unlock_event c.args.self.now.pass.me.0 c.take_by_clock.new.pass.me c.take_by_clock.ensures.found hall after c.at-at.result c.args.name.now c.unlock-answer.result c.slot_mut.ensures.value told

pub returns-in-Some-clause-told : goal.returns-in-Some-clause-told
returns-in-Some-clause-told g c =
    let old = c.args.self.now in
    let es = unlocked c.at-at.result c.args.name.now c.unlock-answer.result in
    let told = since old.pass.me.0 c.take_by_clock.new.pass.me c.take_by_clock.ensures.found (opened old.locks.now.hall).desk old.pass.id c.take_by_clock.new.pass.id es c.put.new.pass.me.0 c.take_by_clock.ensures.own.1 c.put.ensures.extends in
    handed_over old c.args.name.now c.at-at.result c.unlock-answer.result c.unlock-answer.new.worker c.put.new.pass.me.0 c.at-at.ensures told c.in-Some.answer c.in-Some.is

pub returns-in-None-clause-told : goal.returns-in-None-clause-told
returns-in-None-clause-told g c =
    let old = c.args.self.now in
    let es = unlocked c.at-at.result c.args.name.now c.unlock-answer.result in
    let told = since old.pass.me.0 c.take_by_clock.new.pass.me c.take_by_clock.ensures.found (opened old.locks.now.hall).desk old.pass.id c.take_by_clock.new.pass.id es c.put.new.pass.me.0 c.take_by_clock.ensures.own.1 c.put.ensures.extends in
    gave_back old c.args.name.now c.at-at.result c.unlock-answer.result c.unlock-answer.new.worker c.put.new.pass.me.0 c.at-at.ensures told c.unlock-answer.ensures.gives c.in-None.is
