use Rattle.std.proofs.Common.{◌<◌, Some, length, slice_set, ap, ◌∙◌, arith}
use Rattle.mm_arena.specs.Shelf.{entry_at}
use Rattle.mm_arena.specs.private.Stored.{entry_of}
use Rattle.mm_arena.proofs.Lemmas.Stored.{length-seen, seen-index, seen-set}
use Rattle.mm_arena.proofs.shelf.Shelf.keep.Goals as goal

pub index_mut-requires : goal.index_mut-requires
index_mut-requires g c = omega (arith, c.requires, ap length c.self.view_is, length-seen c.self.inside.entries.items)

pub returns-clause-was : goal.returns-clause-was
returns-clause-was g c =
    let kept = c.self.inside.entries.items in
    let inside : c.args.process < length kept = omega (arith, c.requires, ap length c.self.view_is, length-seen kept) in
    ap (entry_of c.args.process) c.replace.ensures.value
    ∙ seen-index kept c.args.process _ inside c.index_mut.ensures.value
    ∙ ap (λ s. entry_at s c.args.process) c.self.view_is

pub returns-clause-now : goal.returns-clause-now
returns-clause-now g c =
    rw c.replace.ensures.after
    (seen-set c.self.inside.entries.items c.args.process (Some c.args.stored) ∙ ap (λ s. slice_set s c.args.process (entry_of c.args.process (Some c.args.stored))) c.self.view_is)
