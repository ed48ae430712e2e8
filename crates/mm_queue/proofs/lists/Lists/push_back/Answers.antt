use Rattle.std.proofs.Common.{◌+◌, ◌++◌, ◌∷◌, [], set, arith}
use Rattle.mm_queue.specs.Queues.{queue, with_queue}
use Rattle.mm_queue.proofs.Lemmas.Entries.{linked_now, IsShown, len_small, back_has_entry, shown_pushed}
use Rattle.mm_queue.proofs.lists.Lists.push_back.Goals as goal

pub set_next-requires : goal.set_next-requires
set_next-requires c =
    let q = c.args.self.now in
    let ends = c.self.inside.ends.items in
    let s = c.self.inside.entries in
    back_has_entry q ends s (linked_now q ends s c.self.view_is c.self.invariant) c.args.list c.args.key c.requires.list_in_range c.requires.process_in_range c.requires.not_occupied c.index_mut-ends.result.now c.index_mut-ends.result.now c.index_mut-ends.ensures.value c.put.new.self c.put.ensures.stored

pub overflow_add-ends : goal.overflow_add-ends
overflow_add-ends c =
    let q = c.args.self.now in
    let ends = c.self.inside.ends.items in
    let s = c.self.inside.entries in
    let small = len_small q ends s (linked_now q ends s c.self.view_is c.self.invariant) c.args.list c.index_mut-ends.result.now c.index_mut-ends.result.now c.requires.list_in_range c.index_mut-ends.ensures.value in
    omega (arith, small)

after : (c : goal.After-self-1) → IsShown (with_queue c.args.self.now c.args.list (queue c.args.self.now c.args.list ++ c.args.key ∷ [])) (set c.self.inside.ends.items c.args.list (record { front = c.set_next.new.first; back = c.to-link.result; len = c.index_mut-ends.result.now.len + 1 })) c.set_next.new.entries
after c =
    let q = c.args.self.now in
    let ends = c.self.inside.ends.items in
    let s = c.self.inside.entries in
    shown_pushed q ends s (linked_now q ends s c.self.view_is c.self.invariant) c.args.list c.args.key c.requires.list_in_range c.requires.process_in_range c.requires.not_occupied c.index_mut-ends.result.now c.index_mut-ends.result.now c.index_mut-ends.ensures.value c.put.new.self c.put.ensures.stored c.set_next.new.first c.to-link.result c.set_next.new.entries c.to-link.ensures c.set_next.ensures.first c.set_next.ensures.links c.set_next.ensures.tags

pub invariant_of-self : goal.invariant_of-self
invariant_of-self c = (after c).kept

pub returns : goal.returns
returns c = (after c).is
