use Rattle.std.proofs.Common.{◌≡◌, ℕ, Option, Some, sym, ap, ◌∙◌}
use Rattle.mm_arena.specs.declared.key.Key.{Key}
use Rattle.std.specs.Option.{option_copied}
use Rattle.mm_queue.proofs.Lemmas.Removed.{among_key}
use Rattle.mm_queue.proofs.Lemmas.Entries.{linked_now, among_found, not_found, next_read_none, next_read, its_process}
use Rattle.mm_queue.proofs.lists.Lists.next.Goals as goal

abbrev key_of : ℕ → ℕ → Option Key
key_of generation process = Some (record { process = process; generation = generation })

pub returns-in_err-get-clause-listed : goal.returns-in_err-get-clause-listed
returns-in_err-get-clause-listed c = λ list before after whole.
    let linked = linked_now c.args.self.now c.self.inside.ends.items c.self.inside.entries c.self.view_is c.self.invariant in
    absurd (not_found _ _ c.self.inside.entries linked c.args.key (sym c.get.ensures ∙ ap option_copied c.in_err-get.was) (list, among_key _ _ _ _ linked list before c.args.key after whole))

pub returns-in_err-process-clause-listed : goal.returns-in_err-process-clause-listed
returns-in_err-process-clause-listed c = λ list before after whole.
    let linked = linked_now c.args.self.now c.self.inside.ends.items c.self.inside.entries c.self.view_is c.self.invariant in
    c.from_residual-in_err-process.ensures
    ∙ sym (next_read_none _ _ c.self.inside.entries linked list before c.args.key after whole c.in_ok-get.field-0.now (sym c.get.ensures ∙ ap option_copied c.in_ok-get.was) (sym c.get-2.ensures ∙ c.in_err-process.was))

pub returns-in_err-generation-clause-listed : goal.returns-in_err-generation-clause-listed
returns-in_err-generation-clause-listed c = λ list before after whole.
    let linked = linked_now c.args.self.now c.self.inside.ends.items c.self.inside.entries c.self.view_is c.self.invariant in
    c.from_residual-in_err-generation.ensures ∙ sym c.in_err-generation.was ∙ c.key_at.ensures
    ∙ next_read _ _ c.self.inside.entries linked list before c.args.key after whole c.in_ok-get.field-0.now (sym c.get.ensures ∙ ap option_copied c.in_ok-get.was) c.in_ok-process.process (sym c.get-2.ensures ∙ c.in_ok-process.was)

pub returns-clause-listed : goal.returns-clause-listed
returns-clause-listed c = λ list before after whole.
    let linked = linked_now c.args.self.now c.self.inside.ends.items c.self.inside.entries c.self.view_is c.self.invariant in
    let key = c.in_ok-generation.field-0 in
    let own : key.process ≡ c.in_ok-process.process = its_process _ _ c.self.inside.entries linked c.in_ok-process.process key (sym c.key_at.ensures ∙ c.in_ok-generation.was) in
    ap (key_of key.generation) (sym own) ∙ sym c.in_ok-generation.was ∙ c.key_at.ensures
    ∙ next_read _ _ c.self.inside.entries linked list before c.args.key after whole c.in_ok-get.field-0.now (sym c.get.ensures ∙ ap option_copied c.in_ok-get.was) c.in_ok-process.process (sym c.get-2.ensures ∙ c.in_ok-process.was)

pub returns-clause-absent : goal.returns-clause-absent
returns-clause-absent c = λ absent.
    let linked = linked_now c.args.self.now c.self.inside.ends.items c.self.inside.entries c.self.view_is c.self.invariant in
    absurd (absent (c.in_ok-get.field-0.now.list, among_found _ _ c.self.inside.entries linked c.args.key c.in_ok-get.field-0.now (sym c.get.ensures ∙ ap option_copied c.in_ok-get.was)))
