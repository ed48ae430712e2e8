use Rattle.std.proofs.Common.{◌≡◌, ◌≢◌, false, refl, sym, subst}
use Rattle.mm_manager.specs.LockState.{LockState, has_all}
use Rattle.mm_manager.specs.Made.{Locked}
use Rattle.mm_manager.specs.declared.reply.Lock.TheVariants as lock
use Rattle.mm_manager.specs.private.Handed.{seen}
use Rattle.mm_manager.proofs.Lemmas.Answered.{requested_asks, requested_may, requested_keeps, requested_labels}
use Rattle.mm_manager.proofs.Lemmas.Told.{asked_locks, room_left}
use Rattle.mm_manager.proofs.Lemmas.Counted.{lock_counted, counts_fit}
use Rattle.mm_manager.proofs.manager.LockManager.ask_table.Goals as goal

pub returns : goal.returns
returns c =
    let k = c.args.key in
    let name = c.args.name.now in
    let reply = c.lock-answer.result in
    let done = c.lock-answer.ensures in
    let old = seen c.self.inside.named c.self.inside.tells c.self.inside.totals c.self.inside.names_each in
    let new = seen c.lock-answer.new.self false c.count_lock.new.self c.self.inside.names_each in
    let room = subst (λ (m : LockState). has_all m k ≡ false) (sym c.self.view_is) c.requires.room in
    subst (λ (m : LockState). Locked m k name reply new) c.self.view_is record {
      locks = asked_locks old new k name reply c.self.invariant.sound.numbered c.is_at_rest.ensures.laws (requested_keeps old.table new.table old.names new.names old.totals c.args.key c.args.name.now c.is_at_rest.ensures.laws c.self.invariant.sound.left c.self.invariant.labels c.lock-answer.result c.lock-answer.ensures.requested).laws done.requested refl c.count_lock.ensures refl room;
      may = requested_may old.table new.table old.names new.names old.totals k name reply done.requested;
      room = room_left (λ answer. answer ≢ lock.Held) (has_all old k ≡ false) reply room;
      step = requested_asks old.table new.table old.names new.names old.totals k name reply done.requested;
      granted = refl;
      totals = c.count_lock.ensures;
    }

pub count_lock-requires : goal.count_lock-requires
count_lock-requires c =
    let old = seen c.self.inside.named c.self.inside.tells c.self.inside.totals c.self.inside.names_each in
    let new = seen c.lock-answer.new.self false c.self.inside.totals c.self.inside.names_each in
    counts_fit _ new.table (lock_counted old.totals old.table new.table old.names new.names c.args.key c.args.name.now c.lock-answer.result c.self.invariant.counted c.lock-answer.ensures.requested) (requested_keeps old.table new.table old.names new.names old.totals c.args.key c.args.name.now c.is_at_rest.ensures.laws c.self.invariant.sound.left c.self.invariant.labels c.lock-answer.result c.lock-answer.ensures.requested).room

pub invariant_of-self : goal.invariant_of-self
invariant_of-self c =
    let old = seen c.self.inside.named c.self.inside.tells c.self.inside.totals c.self.inside.names_each in
    let new = seen c.lock-answer.new.self false c.self.inside.totals c.self.inside.names_each in
    record {
      sound = record { numbered = c.lock-answer.ensures.numbered; left = (requested_keeps old.table new.table old.names new.names old.totals c.args.key c.args.name.now c.is_at_rest.ensures.laws c.self.invariant.sound.left c.self.invariant.labels c.lock-answer.result c.lock-answer.ensures.requested).room };
      counted = rw c.count_lock.ensures
          (lock_counted old.totals old.table new.table old.names new.names c.args.key c.args.name.now c.lock-answer.result c.self.invariant.counted c.lock-answer.ensures.requested);
      labels = rw c.count_lock.ensures
          (requested_labels old.table new.table old.names new.names old.totals c.args.key c.args.name.now c.self.invariant.labels c.lock-answer.result c.lock-answer.ensures.requested);
    }
