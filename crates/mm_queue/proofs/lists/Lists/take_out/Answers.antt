use Rattle.std.proofs.Common.{◌≡◌, ◌-◌, ◌++◌, ◌∷◌, ℕ, List, length, length-set, set, refl, ap, ◌∙◌, arith}
use Rattle.mm_arena.specs.declared.key.Key.{Key}
use Rattle.mm_queue.specs.Queues.{Queues, queue, with_queue}
use Rattle.mm_queue.proofs.Lemmas.AreLinked.{list_in_range, length-ends}
use Rattle.mm_queue.proofs.Lemmas.Removed.{list_below}
use Rattle.mm_queue.proofs.Lemmas.Entries.{linked_now, has_value, IsShown, standing, standing_value, among_found, len_positive, cut, before_has_entry, next_has_entry, shown_removed}
use Rattle.mm_queue.proofs.lists.Lists.take_out.Goals as goal

pub take_stored-entry-requires : goal.take_stored-entry-requires
take_stored-entry-requires c =
    let linked = linked_now c.args.self.now c.self.inside.ends.items c.self.inside.entries c.self.view_is c.self.invariant in
    has_value c.self.inside.entries _ (standing _ _ c.self.inside.entries linked c.args.key c.requires)

pub set_next-requires : goal.set_next-requires
set_next-requires c =
    let s = c.self.inside.entries in
    let linked = linked_now c.args.self.now c.self.inside.ends.items s c.self.view_is c.self.invariant in
    let found = standing_value _ _ c.self.inside.entries linked c.args.key c.requires c.take_stored-entry.result c.take_stored-entry.ensures.value in
    let parts = cut _ _ s linked c.args.key c.take_stored-entry.result.1 found c.take_stored-entry.new.self c.take_stored-entry.ensures.entries in
    before_has_entry _ _ s linked c.args.key c.take_stored-entry.result.1 found c.take_stored-entry.new.self c.take_stored-entry.ensures.entries c.take_stored-entry.result.1.list parts.earlier parts.later parts.whole c.take_stored-entry.new.self refl

pub set_before-requires : goal.set_before-requires
set_before-requires c =
    let s = c.self.inside.entries in
    let linked = linked_now c.args.self.now c.self.inside.ends.items s c.self.view_is c.self.invariant in
    let found = standing_value _ _ c.self.inside.entries linked c.args.key c.requires c.take_stored-entry.result c.take_stored-entry.ensures.value in
    let parts = cut _ _ s linked c.args.key c.take_stored-entry.result.1 found c.take_stored-entry.new.self c.take_stored-entry.ensures.entries in
    next_has_entry _ _ s linked c.args.key c.take_stored-entry.result.1 found c.take_stored-entry.new.self c.take_stored-entry.ensures.entries c.take_stored-entry.result.1.list parts.earlier parts.later parts.whole c.set_next.new.entries c.set_next.ensures.tags

pub overflow_sub-ends : goal.overflow_sub-ends
overflow_sub-ends c =
    let s = c.self.inside.entries in
    let linked = linked_now c.args.self.now c.self.inside.ends.items s c.self.view_is c.self.invariant in
    let found = standing_value _ _ c.self.inside.entries linked c.args.key c.requires c.take_stored-entry.result c.take_stored-entry.ensures.value in
    let among = among_found _ _ s linked c.args.key c.take_stored-entry.result.1 found in
    len_positive _ _ s linked c.args.key c.take_stored-entry.result.1 c.index_mut-ends.result.now c.index_mut-ends.result.now found (list_in_range c.args.self.now c.take_stored-entry.result.1.list c.args.key among) c.index_mut-ends.ensures.value

pub index_mut-ends-requires : goal.index_mut-ends-requires
index_mut-ends-requires c =
    let s = c.self.inside.entries in
    let linked = linked_now c.args.self.now c.self.inside.ends.items s c.self.view_is c.self.invariant in
    let among = among_found _ _ s linked c.args.key c.take_stored-entry.result.1 (standing_value _ _ c.self.inside.entries linked c.args.key c.requires c.take_stored-entry.result c.take_stored-entry.ensures.value) in
    omega (arith, list_in_range c.args.self.now c.take_stored-entry.result.1.list c.args.key among, length-ends _ _ _ _ linked, c.self.inside.ends.ok)

after_removal : (c : goal.After-self-1) → (list : ℕ) (before after : List Key) → queue c.args.self.now list ≡ before ++ c.args.key ∷ after → IsShown (with_queue c.args.self.now list (before ++ after)) (set c.self.inside.ends.items c.take_stored-entry.result.1.list (record { front = c.set_next.new.first; back = c.set_before.new.last; len = c.index_mut-ends.result.now.len - 1 })) c.set_before.new.entries
after_removal c list before after whole =
    let s = c.self.inside.entries in
    let linked = linked_now c.args.self.now c.self.inside.ends.items s c.self.view_is c.self.invariant in
    let found = standing_value _ _ c.self.inside.entries linked c.args.key c.requires c.take_stored-entry.result c.take_stored-entry.ensures.value in
    shown_removed _ _ s linked c.args.key c.take_stored-entry.result.1 found c.take_stored-entry.new.self c.take_stored-entry.ensures.entries list before after whole (list_below _ _ _ _ linked list before c.args.key after whole) c.index_mut-ends.result.now c.index_mut-ends.result.now c.index_mut-ends.ensures.value c.set_next.new.first c.set_before.new.last c.set_next.ensures.first c.set_before.ensures.last c.set_next.new.entries c.set_before.new.entries c.set_next.ensures.links c.set_next.ensures.tags c.set_before.ensures.links c.set_before.ensures.tags

pub invariant_of-self : goal.invariant_of-self
invariant_of-self c =
    let s = c.self.inside.entries in
    let linked = linked_now c.args.self.now c.self.inside.ends.items s c.self.view_is c.self.invariant in
    let parts = cut _ _ s linked c.args.key c.take_stored-entry.result.1 (standing_value _ _ c.self.inside.entries linked c.args.key c.requires c.take_stored-entry.result c.take_stored-entry.ensures.value) c.take_stored-entry.new.self c.take_stored-entry.ensures.entries in
    (after_removal c c.take_stored-entry.result.1.list parts.earlier parts.later parts.whole).kept

pub returns-clause-removed : goal.returns-clause-removed
returns-clause-removed c = λ list before after whole. (after_removal c list before after whole).is

pub returns-clause-lists : goal.returns-clause-lists
returns-clause-lists c =
    let s = c.self.inside.entries in
    let linked = linked_now c.args.self.now c.self.inside.ends.items s c.self.view_is c.self.invariant in
    let parts = cut _ _ s linked c.args.key c.take_stored-entry.result.1 (standing_value _ _ c.self.inside.entries linked c.args.key c.requires c.take_stored-entry.result c.take_stored-entry.ensures.value) c.take_stored-entry.new.self c.take_stored-entry.ensures.entries in
    ap (λ (q : Queues). length q.lists) (after_removal c c.take_stored-entry.result.1.list parts.earlier parts.later parts.whole).is
    ∙ length-set c.args.self.now.lists c.take_stored-entry.result.1.list (parts.earlier ++ parts.later)

pub returns-clause-processes : goal.returns-clause-processes
returns-clause-processes c =
    let s = c.self.inside.entries in
    let linked = linked_now c.args.self.now c.self.inside.ends.items s c.self.view_is c.self.invariant in
    let parts = cut _ _ s linked c.args.key c.take_stored-entry.result.1 (standing_value _ _ c.self.inside.entries linked c.args.key c.requires c.take_stored-entry.result c.take_stored-entry.ensures.value) c.take_stored-entry.new.self c.take_stored-entry.ensures.entries in
    ap (λ (q : Queues). q.processes) (after_removal c c.take_stored-entry.result.1.list parts.earlier parts.later parts.whole).is
