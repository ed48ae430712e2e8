use Rattle.mm_manager.proofs.Lemmas.May.{cancels}
use Rattle.mm_manager.proofs.Lemmas.TakesBack.{taken_back_active, taken_back_numbered}
use Rattle.mm_manager.proofs.named.NamedTable.end_waiting.Goals as goal

pub finish-requires : goal.finish-requires
finish-requires c =
    let s = c.args.self.now.table.table in
    let u = c.take_back.new.table.table in
    let k = c.args.key in
    let active = taken_back_active s u k c.take_back.ensures.made (cancels s k c.requires.may).live in
    record {
      sound = record { numbered = taken_back_numbered s u k c.take_back.ensures.made c.args.self.now.names c.requires.sound.numbered; left = c.take_back.ensures.left };
      live = active.live;
      idle = active.idle;
    }
