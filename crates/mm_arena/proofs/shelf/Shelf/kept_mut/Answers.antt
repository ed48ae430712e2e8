use Rattle.std.proofs.Common.{◌≡◌, Some, IsSome, slice_set, refl, sym, ap, subst, ◌∙◌, arith}
use Rattle.std.specs.Option.{option_copied_mut}
use Rattle.mm_arena.specs.Shelf.{entry_at, HasValue}
use Rattle.mm_arena.specs.private.Stored.{entry_of}
use Rattle.mm_arena.proofs.Lemmas.Stored.{seen-index, seen-set, HasValue-inside, IsSome-kept}
use Rattle.mm_arena.proofs.shelf.Shelf.kept_mut.Goals as goal

pub index_mut-requires : goal.index_mut-requires
index_mut-requires g c =
    let has = subst (λ s. HasValue s c.args.process) (sym c.self.view_is) c.requires in
    omega (arith, HasValue-inside c.self.inside.entries.items c.args.process has)

pub unwrap-requires : goal.unwrap-requires
unwrap-requires g c =
    let kept = c.self.inside.entries.items in
    let has = subst (λ s. HasValue s c.args.process) (sym c.self.view_is) c.requires in
    let read = seen-index kept c.args.process _ (HasValue-inside kept c.args.process has) c.index_mut.ensures.value in
    c.as_mut.ensures.variant ∙ IsSome-kept c.args.process c.index_mut.result.now (subst IsSome (sym read) has)

pub returns : goal.returns
returns g c =
    let kept = c.self.inside.entries.items in
    let has = subst (λ s. HasValue s c.args.process) (sym c.self.view_is) c.requires in
    let inside = HasValue-inside kept c.args.process has in
    let value : Some c.unwrap.result.now ≡ c.index_mut.result.now = ap option_copied_mut (sym c.unwrap.ensures) ∙ c.as_mut.ensures.value in (
      (
        refl,
        λ w. seen-set kept c.args.process (Some w) ∙ ap (λ s. slice_set s c.args.process (entry_of c.args.process (Some w))) c.self.view_is,
      ),
      record {
        writes_back = tt;
        value =
            ap (entry_of c.args.process) value
            ∙ seen-index kept c.args.process _ inside c.index_mut.ensures.value
            ∙ ap (λ s. entry_at s c.args.process) c.self.view_is;
      },
    )
