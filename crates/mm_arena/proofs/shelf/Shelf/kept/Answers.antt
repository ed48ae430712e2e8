use Rattle.std.proofs.Common.{◌≡◌, ◌<◌, None, length, slice_index_or, refl, ap, ◌∙◌, arith}
use Rattle.std.proofs.lemmas.Bool.Decides.{nat_tests}
use Rattle.std.proofs.lemmas.List.{get_or_past}
use Rattle.mm_arena.specs.Shelf.{entry_at}
use Rattle.mm_arena.specs.private.Stored.{entry_of}
use Rattle.mm_arena.proofs.Lemmas.Stored.{seen-read, seen-index}
use Rattle.mm_arena.proofs.shelf.Shelf.kept.Goals as goal

pub returns-in_err-get : goal.returns-in_err-get
returns-in_err-get g c =
    let kept = c.self.inside.entries.items in
    let none : slice_index_or kept c.args.process None ≡ None = get_or_past kept c.args.process None (grind (arith, nat_tests, c.in_err-get.ensures.lookup.0, c.deref.ensures.value)) in
    rw (c.from_residual.ensures, ← c.self.view_is, seen-read kept c.args.process, none) refl

pub returns : goal.returns
returns g c =
    let kept = c.self.inside.entries.items in
    let inside : c.args.process < length kept = grind (arith, nat_tests, c.in_ok-get.ensures.lookup.0, c.deref.ensures.value) in
    let read = c.in_ok-get.ensures.lookup.1 ∙ ap (λ items. slice_index_or items c.args.process c.in_ok-get.field-0.now) c.deref.ensures.value in
    ap (entry_of c.args.process) c.as_ref.ensures.value
    ∙ seen-index kept c.args.process _ inside read
    ∙ ap (λ s. entry_at s c.args.process) c.self.view_is
