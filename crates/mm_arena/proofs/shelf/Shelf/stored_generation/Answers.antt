use Rattle.std.proofs.Common.{is_some, option_map, sym, ap, subst, ◌∙◌, arith, true≢false}
use Rattle.mm_arena.specs.declared.key.Key.{Key}
use Rattle.mm_arena.specs.Shelf.{entry_at, HasValue}
use Rattle.mm_arena.specs.private.Stored.{entry_of}
use Rattle.mm_arena.proofs.Lemmas.Stored.{seen-index, HasValue-inside}
use Rattle.mm_arena.proofs.shelf.Shelf.stored_generation.Goals as goal

pub index-requires : goal.index-requires
index-requires g c =
    let has = subst (λ s. HasValue s c.args.process) (sym c.self.view_is) c.requires in
    omega (arith, HasValue-inside c.self.inside.entries.items c.args.process has)

pub returns-in-Some : goal.returns-in-Some
returns-in-Some g c =
    let kept = c.self.inside.entries.items in
    let has = subst (λ s. HasValue s c.args.process) (sym c.self.view_is) c.requires in
    let read = seen-index kept c.args.process _ (HasValue-inside kept c.args.process has) c.index.ensures in
    ap (option_map (λ (entry : Key × g.row.T.Denot). entry.0.generation))
    (ap (λ s. entry_at s c.args.process) (sym c.self.view_is) ∙ sym read ∙ ap (entry_of c.args.process) c.in-Some.is)

pub returns-in-None : goal.returns-in-None
returns-in-None g c =
    let kept = c.self.inside.entries.items in
    let has = subst (λ s. HasValue s c.args.process) (sym c.self.view_is) c.requires in
    let read = seen-index kept c.args.process _ (HasValue-inside kept c.args.process has) c.index.ensures in
    absurd (true≢false (sym has ∙ ap is_some (sym read ∙ ap (entry_of c.args.process) c.in-None.is)))
