use Rattle.std.proofs.Common.{Ok, Err}
use Rattle.mm_names.specs.Names.{name_of}
use Rattle.mm_rules.specs.Event.{Release}
use Rattle.mm_settled.specs.Calls.{Makes, Made}
use Rattle.mm_manager.proofs.Lemmas.Owners.{release_leaves}
use Rattle.mm_manager.proofs.Lemmas.Forgets.{NamesFollow, released_names}
use Rattle.mm_manager.proofs.Lemmas.Numbers.{is_some_not_none}
use Rattle.mm_manager.proofs.Lemmas.Room.{release_room}
use Rattle.mm_manager.proofs.Lemmas.Unlocks.{was_owned, not_owned, released_forgets}
use Rattle.mm_manager.proofs.named.NamedTable.release.Goals as goal

pub returns-in_default-clause-refused : goal.returns-in_default-clause-refused
returns-in_default-clause-refused c =
    let refuses : Makes (Release c.args.key c.args.number) c.args.self.now.table.table (Err c.in_default.field-0) c.release.new.self.table = rw c.in_default.is at c.release.ensures.makes in
    not_owned c.args.self.now.table.table c.release.new.self.table c.args.key c.args.number c.in_default.field-0 c.is_at_rest.ensures.laws c.requires.sound.left refuses

made : (c : goal.After-forget_released) → Made (Release c.args.key c.args.number) c.args.self.now.table.table c.in-Ok.answer c.release.new.self.table
made c =
    let makes : Makes (Release c.args.key c.args.number) c.args.self.now.table.table (Ok c.in-Ok.answer) c.release.new.self.table = rw c.in-Ok.is at c.release.ensures.makes in
    makes

follow : (c : goal.After-forget_released) → NamesFollow c.args.self.now.names c.release.new.self.table c.forget_released.new.names
follow c =
    let s = c.args.self.now.table.table in
    let u = c.release.new.self.table in
    let leaves = release_leaves s u c.args.key c.args.number c.in-Ok.answer c.is_at_rest.ensures.laws (made c) in
    released_names s u c.args.self.now.names c.forget_released.new.names c.args.number c.requires.sound.numbered (is_some_not_none (name_of c.args.self.now.names c.args.number) c.requires.named) leaves
    (released_forgets s u c.args.self.now.names c.forget_released.new.names c.args.key c.args.number c.in-Ok.answer c.is_at_rest.ensures.laws (made c) c.forget_released.ensures)

pub returns-clause-follows : goal.returns-clause-follows
returns-clause-follows c =
    let s = c.args.self.now.table.table in
    let laws = c.is_at_rest.ensures.laws in
    let owned = (was_owned s c.release.new.self.table c.args.key c.args.number c.in-Ok.answer laws (made c)).owned in
    record {
      told = c.release.ensures.told;
      ended = c.release.ensures.ended;
      names = (follow c).kept;
      sound = record {
        numbered = (follow c).numbered;
        left = release_room s c.release.new.self.table c.args.key c.args.number c.in-Ok.answer laws owned c.requires.sound.left (made c);
      };
    }
