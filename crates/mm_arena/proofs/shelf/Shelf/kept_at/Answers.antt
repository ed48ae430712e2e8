use Rattle.std.proofs.Common.{IsSome, sym, ap, subst, ◌∙◌, arith}
use Rattle.std.specs.Option.{option_copied}
use Rattle.mm_arena.specs.Shelf.{entry_at, HasValue}
use Rattle.mm_arena.specs.private.Stored.{entry_of}
use Rattle.mm_arena.proofs.Lemmas.Stored.{seen-index, HasValue-inside, IsSome-kept}
use Rattle.mm_arena.proofs.shelf.Shelf.kept_at.Goals as goal

pub index-requires : goal.index-requires
index-requires g c =
    let has = subst (λ s. HasValue s c.args.process) (sym c.self.view_is) c.requires in
    omega (arith, HasValue-inside c.self.inside.entries.items c.args.process has)

pub unwrap-requires : goal.unwrap-requires
unwrap-requires g c =
    let kept = c.self.inside.entries.items in
    let has = subst (λ s. HasValue s c.args.process) (sym c.self.view_is) c.requires in
    let read = seen-index kept c.args.process _ (HasValue-inside kept c.args.process has) c.index.ensures in
    c.as_ref.ensures.variant ∙ IsSome-kept c.args.process c.index.result.now (subst IsSome (sym read) has)

pub returns : goal.returns
returns g c =
    let kept = c.self.inside.entries.items in
    let has = subst (λ s. HasValue s c.args.process) (sym c.self.view_is) c.requires in
    ap (entry_of c.args.process) (ap option_copied (sym c.unwrap.ensures) ∙ c.as_ref.ensures.value)
    ∙ seen-index kept c.args.process _ (HasValue-inside kept c.args.process has) c.index.ensures
    ∙ ap (λ s. entry_at s c.args.process) c.self.view_is
