use Rattle.std.proofs.Common.{None, IsSome, slice_set, sym, ap, subst, ◌∙◌, arith}
use Rattle.mm_arena.specs.Shelf.{entry_at, HasValue}
use Rattle.mm_arena.specs.private.Stored.{entry_of}
use Rattle.mm_arena.proofs.Lemmas.Stored.{seen-index, seen-set, HasValue-inside, IsSome-kept}
use Rattle.mm_arena.proofs.shelf.Shelf.take_kept.Goals as goal

pub index_mut-requires : goal.index_mut-requires
index_mut-requires g c =
    let has = subst (λ s. HasValue s c.args.process) (sym c.self.view_is) c.requires in
    omega (arith, HasValue-inside c.self.inside.entries.items c.args.process has)

pub unwrap-requires : goal.unwrap-requires
unwrap-requires g c =
    let kept = c.self.inside.entries.items in
    let has = subst (λ s. HasValue s c.args.process) (sym c.self.view_is) c.requires in
    let read = seen-index kept c.args.process _ (HasValue-inside kept c.args.process has) c.index_mut.ensures.value in
    rw c.take.ensures.value (IsSome-kept c.args.process c.index_mut.result.now (subst IsSome (sym read) has))

pub returns-clause-was : goal.returns-clause-was
returns-clause-was g c =
    let kept = c.self.inside.entries.items in
    let has = subst (λ s. HasValue s c.args.process) (sym c.self.view_is) c.requires in
    ap (entry_of c.args.process) (sym c.unwrap.ensures ∙ c.take.ensures.value)
    ∙ seen-index kept c.args.process _ (HasValue-inside kept c.args.process has) c.index_mut.ensures.value
    ∙ ap (λ s. entry_at s c.args.process) c.self.view_is

pub returns-clause-now : goal.returns-clause-now
returns-clause-now g c =
    let kept = c.self.inside.entries.items in
    rw c.take.ensures.after
    (seen-set kept c.args.process None
    ∙ ap (λ s. slice_set s c.args.process None) c.self.view_is)
