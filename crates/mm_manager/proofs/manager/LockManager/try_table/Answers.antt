use Rattle.std.proofs.Common.{◌≡◌, ◌≢◌, false, refl, sym, subst}
use Rattle.mm_manager.specs.LockState.{LockState, has_all}
use Rattle.mm_manager.specs.Made.{Tried}
use Rattle.mm_manager.specs.declared.reply.TryLock.TheVariants as tried
use Rattle.mm_manager.specs.private.Handed.{seen}
use Rattle.mm_manager.proofs.Lemmas.Told.{room_left, tried_locks}
use Rattle.mm_manager.proofs.Lemmas.Counted.{try_counted}
use Rattle.mm_manager.proofs.Lemmas.CallLabels.{try_labels}
use Rattle.mm_manager.proofs.manager.LockManager.try_table.Goals as goal

pub returns : goal.returns
returns c =
    let i = c.self.inside in
    let k = c.args.key in
    let name = c.args.name.now in
    let reply = c.try_lock.result in
    let done = c.try_lock.ensures in
    let old = seen i.named i.tells i.totals i.names_each in
    let new = seen c.try_lock.new.self false i.totals i.names_each in
    let room = subst (λ (m : LockState). has_all m k ≡ false) (sym c.self.view_is) c.requires in
    subst (λ (m : LockState). Tried m k name reply new) c.self.view_is record {
      tries = tried_locks old new k name reply c.self.invariant.sound.numbered c.is_at_rest.ensures.laws done.tried done.refused done.table done.names refl refl refl room;
      may = done.may;
      room = room_left (λ answer. answer ≢ tried.Held) (has_all old k ≡ false) reply room;
      step = done.tried;
      granted = refl;
      totals = refl;
    }

pub invariant_of-self : goal.invariant_of-self
invariant_of-self c =
    let i = c.self.inside in
    let now = c.try_lock.new in
    let done = c.try_lock.ensures in
    record {
      sound = done.sound;
      counted = try_counted i.totals i.named.table.table now.self.table.table i.named.names now.self.names c.args.key c.args.name.now c.try_lock.result c.self.invariant.counted done.tried done.table;
      labels = try_labels i.totals i.named.table.table now.self.table.table i.named.names now.self.names c.args.key c.args.name.now c.try_lock.result c.self.invariant.labels done.tried done.table;
    }
