use Rattle.std.proofs.Common.{◌≡◌, ◌↔◌, ℕ, Ok, Err, Some}
use Rattle.mm_lists.specs.Members.{Among}
use Rattle.mm_rules.specs.TableState.{owner_of}
use Rattle.mm_rules.specs.Event.{Finish}
use Rattle.mm_settled.specs.Calls.{Made, Makes}
use Rattle.mm_manager.proofs.Lemmas.Owners.{finish_leaves}
use Rattle.mm_manager.proofs.Lemmas.Forgets.{NamesFollow, ended_names}
use Rattle.mm_manager.proofs.Lemmas.HandsDown.{finish_hands_down, nobody_owns}
use Rattle.mm_manager.proofs.Lemmas.Limits.{finish_never}
use Rattle.mm_manager.proofs.Lemmas.Room.{finish_room}
use Rattle.mm_manager.proofs.named.NamedTable.try_finish.Goals as goal

refuses : (c : goal.In_default) → Makes (Finish c.args.key) c.args.self.now.table.table (Err c.in_default.field-0) c.finish.new.self.table
refuses c = rw c.in_default.is at c.finish.ensures.makes

pub returns-in_default-clause-refused : goal.returns-in_default-clause-refused
returns-in_default-clause-refused c =
    let s = c.args.self.now.table.table in
    λ live idle. finish_never s c.args.key c.is_at_rest.ensures.laws c.requires.sound.left live idle c.finish.new.self.table c.in_default.field-0 (refuses c)

pub returns-in_default-clause-table : goal.returns-in_default-clause-table
returns-in_default-clause-table c = (refuses c).0

made : (c : goal.After-forget_ended) → Made (Finish c.args.key) c.args.self.now.table.table tt c.finish.new.self.table
made c =
    let makes : Makes (Finish c.args.key) c.args.self.now.table.table (Ok tt) c.finish.new.self.table = rw c.in-Ok.is at c.finish.ensures.makes in
    makes

listed : (c : goal.After-forget_ended) → (r : ℕ) → Among r c.finish.new.self.ended ↔ (owner_of c.args.self.now.table.table r ≡ Some c.args.key)
listed c = rw c.in-Ok.is at c.finish.ensures.owned

follow : (c : goal.After-forget_ended) → NamesFollow c.args.self.now.names c.finish.new.self.table c.forget_ended.new.names
follow c =
    let s = c.args.self.now.table.table in
    let u = c.finish.new.self.table in
    let leaves = finish_leaves s u c.args.key c.is_at_rest.ensures.laws (made c) in
    ended_names s u c.args.self.now.names c.forget_ended.new.names c.args.key c.finish.new.self.ended c.requires.sound.numbered (listed c) leaves
    c.forget_ended.ensures

pub forget_ended-requires : goal.forget_ended-requires
forget_ended-requires c =
    let s = c.args.self.now.table.table in
    let u = c.finish.new.self.table in
    let k = c.args.key in
    let makes : Makes (Finish k) s (Ok tt) u = rw c.in-Ok.is at c.finish.ensures.makes in
    let owned : (r : ℕ) → Among r c.finish.new.self.ended ↔ (owner_of s r ≡ Some k) = rw c.in-Ok.is at c.finish.ensures.owned in
    let granted = c.finish.new.self.granted in
    let down = finish_hands_down s u k granted c.is_at_rest.ensures.laws c.finish.ensures.ended c.finish.ensures.told.granted makes in
    λ none q among. nobody_owns s u k granted down none q ((owned q).0 among)

pub returns-clause-made : goal.returns-clause-made
returns-clause-made c = made c

pub returns-clause-follows : goal.returns-clause-follows
returns-clause-follows c = record {
  told = c.finish.ensures.told;
  ended = c.finish.ensures.ended;
  names = (follow c).kept;
  sound = record {
    numbered = (follow c).numbered;
    left = finish_room c.args.self.now.table.table c.finish.new.self.table c.args.key c.is_at_rest.ensures.laws c.requires.sound.left (made c);
  };
}
