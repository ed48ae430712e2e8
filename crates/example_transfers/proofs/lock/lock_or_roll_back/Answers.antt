use Rattle.std.proofs.Common.{ℕ, List, Ok, inl, inr, refl}
use Rattle.mm_arena.specs.declared.key.Key.{Key}
use Rattle.mm_manager.specs.LockState.{LockState, Owns}
use Rattle.mm_manager.specs.Calls.{LocksName, Aborts}
use Rattle.mm_manager.specs.declared.reply.Lock.TheVariants.{Waits}
use Rattle.example_transfers.proofs.lock.lock_or_roll_back.Goals as goal

pub returns-in-Waits : goal.returns-in-Waits
returns-in-Waits c =
    let h = c.in-Waits.holder in
    let locks : LocksName c.args.locks.now c.args.key c.args.account.now (Ok (Waits h)) c.lock.new.self = rw c.in-Waits.is at c.in_ok-lock.ensures.locks in
    (locks.0.waits, (locks.0.owners h c.args.account.now).1 locks.0.holder)

-- who ended owns nothing
owns_nothing : (old new : LockState) (k : Key) → Aborts old k (Ok tt) new → (name : List ℕ) → ¬ Owns new k name
owns_nothing old new k (inl ends) name owns = (ends.passes.gains k name owns).0 refl
owns_nothing old new k (inr (mid, takes, ends)) name owns = (ends.passes.gains k name owns).0 refl

pub returns-in_ok-abort-in-Deadlock : goal.returns-in_ok-abort-in-Deadlock
returns-in_ok-abort-in-Deadlock c =
    let ended : Aborts c.lock.new.self c.args.key (Ok tt) c.abort.new.self = rw c.in_ok-abort-in-Deadlock.was at c.abort.ensures.aborts in
    owns_nothing c.lock.new.self c.abort.new.self c.args.key ended
