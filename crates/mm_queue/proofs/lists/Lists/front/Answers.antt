use Rattle.std.proofs.Common.{sym, ◌∙◌}
use Rattle.mm_queue.proofs.Lemmas.Entries.{linked_now, has_value, front_has, front_none, front_some}
use Rattle.mm_queue.proofs.lists.Lists.front.Goals as goal

pub stored_generation-generation-requires : goal.stored_generation-generation-requires
stored_generation-generation-requires c =
    let linked = linked_now c.args.self.now c.self.inside.ends.items c.self.inside.entries c.self.view_is c.self.invariant in
    has_value c.self.inside.entries _ (front_has _ _ c.self.inside.entries linked c.args.list c.index.result.now c.index.result.now c.requires c.index.ensures c.in_ok-process.process (sym c.in_ok-process.ensures))

pub returns-in_err-process : goal.returns-in_err-process
returns-in_err-process c =
    let linked = linked_now c.args.self.now c.self.inside.ends.items c.self.inside.entries c.self.view_is c.self.invariant in
    c.from_residual.ensures ∙ front_none _ _ c.self.inside.entries linked c.args.list c.index.result.now c.index.result.now c.requires c.index.ensures (sym c.get.ensures ∙ c.in_err-process.was)

pub returns : goal.returns
returns c =
    let linked = linked_now c.args.self.now c.self.inside.ends.items c.self.inside.entries c.self.view_is c.self.invariant in
    front_some _ _ c.self.inside.entries linked c.args.list c.index.result.now c.index.result.now c.requires c.index.ensures c.in_ok-process.process (sym c.in_ok-process.ensures) c.stored_generation-generation.result c.stored_generation-generation.ensures
