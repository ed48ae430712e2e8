use Rattle.std.proofs.Common.{is_some, sym, ap, ◌∙◌}
use Rattle.mm_queue.proofs.Lemmas.Entries.{linked_now, key_of_occupied, occupied_some}
use Rattle.mm_queue.proofs.lists.Lists.occupied.Goals as goal

pub returns : goal.returns
returns c =
    let linked = linked_now c.args.self.now c.self.inside.ends.items c.self.inside.entries c.self.view_is c.self.invariant in (
      λ is. occupied_some _ _ c.self.inside.entries linked c.args.process (sym (c.is_some.ensures ∙ ap is_some c.key_at.ensures) ∙ is),
      λ stands. c.is_some.ensures ∙ ap is_some (c.key_at.ensures ∙ (key_of_occupied _ _ c.self.inside.entries linked c.args.process stands).1),
    )
