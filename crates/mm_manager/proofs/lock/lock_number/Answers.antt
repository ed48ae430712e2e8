use Rattle.std.proofs.Common.{Err}
use Rattle.mm_settled.specs.Calls.{Locks}
use Rattle.mm_manager.proofs.Lemmas.Limits.{lock_never}
use Rattle.mm_manager.proofs.Lemmas.May.{asks}
use Rattle.mm_manager.proofs.Lemmas.Owners.{not_mine}
use Rattle.mm_manager.proofs.lock.lock_number.Goals as goal

pub unreachable-requires : goal.unreachable-requires
unreachable-requires c =
    let s = c.args.table.now.table in
    let k = c.args.key in
    let r = c.args.number in
    let laws = c.is_at_rest.ensures.laws in
    let may = asks s k c.requires.may in
    let locks : Locks s k r (Err c.in_default.field-0) c.acquire.new.self.table = rw c.in_default.is at c.acquire.ensures.locks in
    lock_never s k laws c.requires.left may.live may.idle c.requires.counted r c.requires.in_range (not_mine s k r laws may.live c.requires.another)
    c.requires.label c.acquire.new.self.table c.in_default.field-0 locks
