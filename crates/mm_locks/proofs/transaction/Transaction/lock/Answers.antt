use Rattle.std.proofs.Common.{refl}
use Rattle.mm_locks.proofs.Telling.{locks_after}
use Rattle.mm_locks.proofs.transaction.Transaction.lock.Goals as goal

pub returns-in-Err-clause-told : goal.returns-in-Err-clause-told
returns-in-Err-clause-told g c =
    let old = c.args.self.now.session.now in
    locks_after old (record old { worker = c.take_thinly.new.worker }) c.lock_slowly.new.self.session.now c.args.name.now (c.take_thinly.ensures.at, refl, refl) refl c.lock_slowly.result c.lock_slowly.ensures.told
