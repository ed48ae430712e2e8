use Rattle.std.proofs.Common.{refl, sym, ap, ◌∙◌}
use Rattle.std.specs.Option.{option_copied}
use Rattle.std.proofs.lemmas.Bool.{false≢true}
use Rattle.mm_queue.proofs.Lemmas.Removed.{among_key}
use Rattle.mm_queue.proofs.Lemmas.Entries.{linked_now, among_found, not_found}
use Rattle.mm_queue.proofs.lists.Lists.remove.Goals as goal

pub returns-in_default-clause-found : goal.returns-in_default-clause-found
returns-in_default-clause-found c =
    let linked = linked_now c.args.self.now c.self.inside.ends.items c.self.inside.entries c.self.view_is c.self.invariant in (
      λ is. absurd (false≢true is),
      λ stands. absurd (not_found _ _ c.self.inside.entries linked c.args.key (sym c.get.ensures ∙ ap option_copied c.in_default.is) stands),
    )

pub returns-in_default-clause-removed : goal.returns-in_default-clause-removed
returns-in_default-clause-removed c = λ list before after whole.
    let linked = linked_now c.args.self.now c.self.inside.ends.items c.self.inside.entries c.self.view_is c.self.invariant in
    absurd (not_found _ _ c.self.inside.entries linked c.args.key (sym c.get.ensures ∙ ap option_copied c.in_default.is) (list, among_key _ _ _ _ linked list before c.args.key after whole))

pub take_out-requires : goal.take_out-requires
take_out-requires c =
    let linked = linked_now c.args.self.now c.self.inside.ends.items c.self.inside.entries c.self.view_is c.self.invariant in
    (c.in-Some.field-0.now.list, among_found _ _ c.self.inside.entries linked c.args.key c.in-Some.field-0.now (sym c.get.ensures ∙ ap option_copied c.in-Some.is))

pub returns-clause-found : goal.returns-clause-found
returns-clause-found c =
    let linked = linked_now c.args.self.now c.self.inside.ends.items c.self.inside.entries c.self.view_is c.self.invariant in (
      λ is. (c.in-Some.field-0.now.list, among_found _ _ c.self.inside.entries linked c.args.key c.in-Some.field-0.now (sym c.get.ensures ∙ ap option_copied c.in-Some.is)),
      λ stands. refl,
    )
