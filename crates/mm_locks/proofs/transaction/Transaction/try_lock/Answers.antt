use Rattle.std.proofs.Common.{refl}
use Rattle.mm_locks.proofs.Telling.{tries_after}
use Rattle.mm_locks.proofs.transaction.Transaction.try_lock.Goals as goal

pub returns-in-Err-clause-told : goal.returns-in-Err-clause-told
returns-in-Err-clause-told g c =
    let old = c.args.self.now.session.now in
    tries_after old (record old { worker = c.take_thinly.new.worker }) c.try_slowly.new.session c.args.name.now (c.take_thinly.ensures.at, refl, refl) refl c.try_slowly.result c.try_slowly.ensures.told
