use Rattle.std.proofs.Common.{ℕ, subst, ◌∙◌}
use Rattle.mm_queue.specs.private.Linked.{HasEntry}
use Rattle.mm_queue.proofs.Lemmas.Removed.{among_key}
use Rattle.mm_queue.proofs.Lemmas.Entries.{linked_now, has_value, standing, value_there, links_next}
use Rattle.mm_queue.proofs.lists.Lists.next_process.Goals as goal

pub stored-requires : goal.stored-requires
stored-requires c =
    let linked = linked_now c.args.self.now c.self.inside.ends.items c.self.inside.entries c.self.view_is c.self.invariant in
    has_value c.self.inside.entries c.args.process (subst (λ (p : ℕ). HasEntry c.self.inside.entries p) c.requires.1 (standing _ _ c.self.inside.entries linked c.requires.0 c.requires.2))

pub returns : goal.returns
returns c = λ list before key after whole own.
    let linked = linked_now c.args.self.now c.self.inside.ends.items c.self.inside.entries c.self.view_is c.self.invariant in
    let found = value_there _ _ c.self.inside.entries linked list key c.args.process c.stored.result.now (among_key _ _ _ _ linked list before key after whole) own c.stored.ensures in
    c.get.ensures ∙ links_next _ _ c.self.inside.entries linked list before key after whole c.stored.result.now found
