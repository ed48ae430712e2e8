use Rattle.std.proofs.Common.{refl, sym, ap, subst, ◌∙◌, arith}
use Rattle.std.proofs.lemmas.Grind.{common_steps}
use Rattle.mm_arena.specs.Slots.{IsLive, lookup, with_value}
use Rattle.mm_arena.proofs.Lemmas.Layout.{Rewrites-live, lookup-seen}
use Rattle.mm_arena.proofs.arena.Arena.value_mut.Goals as goal

pub invariant_of-self-lent : goal.invariant_of-self-lent
invariant_of-self-lent g c w =
    let live = subst (λ s. IsLive s c.args.key) (sym c.self.view_is) c.requires in
    (Rewrites-live _ c.self.invariant c.args.key live _ _ c.index_mut.ensures.value c.value_mut.ensures.value w).laid_out

pub returns : goal.returns
returns g c =
    let live = subst (λ s. IsLive s c.args.key) (sym c.self.view_is) c.requires in
    let shows = λ (w : _). (Rewrites-live _ c.self.invariant c.args.key live _ _ c.index_mut.ensures.value c.value_mut.ensures.value w).shows in
    let found = lookup-seen _ c.self.invariant c.args.key live _ _ c.index_mut.ensures.value c.value_mut.ensures.value in (
      (refl, λ w. shows w ∙ ap (λ s. with_value s c.args.key w) c.self.view_is),
      record { writes_back = tt; value = ap (λ s. lookup s c.args.key) (sym c.self.view_is) ∙ found },
    )

pub index_mut-requires : goal.index_mut-requires
index_mut-requires g c = grind (arith, common_steps)

pub value_mut-requires : goal.value_mut-requires
value_mut-requires g c = grind (arith, common_steps)
