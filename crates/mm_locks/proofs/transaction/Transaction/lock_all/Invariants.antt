use Rattle.std.proofs.Common.{◌≡◌, None, take}
use Rattle.mm_locks.specs.Told.{LocksEachSo, bytes_of}
use Rattle.mm_locks.proofs.transaction.Transaction.lock_all.Given as goal

abbrev pub invariant-loop-place : goal.invariant-loop-place
invariant-loop-place g l =
    (l.granted.at ≡ l.«fn».self.session.now.worker.at) × (l.granted.names.now ≡ l.names) × (l.granted.place ≡ l.place) × (l.self.session.now.worker.at ≡ l.«fn».self.session.now.worker.at)
    × LocksEachSo l.«fn».self.session.now (bytes_of (take l.place l.names)) None l.self.session.now
