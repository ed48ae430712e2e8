use Rattle.std.proofs.Common.{sym, ap, ◌∙◌}
use Rattle.std.specs.Option.{option_copied}
use Rattle.mm_queue.proofs.Lemmas.Entries.{linked_now, among_found, not_found}
use Rattle.mm_queue.proofs.lists.Lists.list_of.Goals as goal

pub returns-in_err-get : goal.returns-in_err-get
returns-in_err-get c =
    let linked = linked_now c.args.self.now c.self.inside.ends.items c.self.inside.entries c.self.view_is c.self.invariant in
    rw c.from_residual.ensures (not_found _ _ c.self.inside.entries linked c.args.key (sym c.get.ensures ∙ ap option_copied c.in_err-get.was))

pub returns : goal.returns
returns c =
    let linked = linked_now c.args.self.now c.self.inside.ends.items c.self.inside.entries c.self.view_is c.self.invariant in
    among_found _ _ c.self.inside.entries linked c.args.key c.in_ok-get.field-0.now (sym c.get.ensures ∙ ap option_copied c.in_ok-get.was)
