use Rattle.mm_manager.proofs.Lemmas.TakesBack.{taken_back_numbered}
use Rattle.mm_manager.proofs.named.NamedTable.cancel.Goals as goal

pub returns-clause-sound : goal.returns-clause-sound
returns-clause-sound c = record {
  numbered = taken_back_numbered c.args.self.now.table.table c.take_back.new.table.table c.args.key c.take_back.ensures.made c.args.self.now.names c.requires.numbered;
  left = c.take_back.ensures.left;
}
