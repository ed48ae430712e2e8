use Rattle.std.proofs.Common.{Err, ap, ◌∙◌}
use Rattle.mm_settled.specs.Calls.{MadeWithdrawal, MakesWithdrawal}
use Rattle.mm_manager.proofs.Lemmas.Limits.{withdraw_carried}
use Rattle.mm_manager.proofs.Lemmas.May.{cancels}
use Rattle.mm_manager.proofs.Lemmas.Room.{withdraw_room}
use Rattle.mm_manager.proofs.cancel.take_back.Goals as goal

pub unreachable-requires : goal.unreachable-requires
unreachable-requires c =
    let s = c.args.table.now.table in
    let k = c.args.key in
    let e = c.in_default.field-0 in
    let makes : MakesWithdrawal k s (Err e) c.withdraw.new.self.table = rw c.in_default.is at c.withdraw.ensures.makes in
    let may = cancels s k c.requires.may in
    let carried = withdraw_carried s k c.is_at_rest.ensures.laws c.requires.left may.live may.number may.waits (c.is_at_rest.ensures.none k.process) c.withdraw.new.self.table e makes in
    c.withdraw.ensures.carried (c.in_default.is ∙ ap Err carried.0)

pub returns-clause-left : goal.returns-clause-left
returns-clause-left c =
    let made : MadeWithdrawal c.args.key c.args.table.now.table c.withdraw.new.self.table = rw c.in-Ok.is at c.withdraw.ensures.makes in
    withdraw_room c.args.table.now.table c.withdraw.new.self.table c.args.key c.requires.left made
