use Rattle.std.proofs.Common.{◌+◌, sym, ap, subst, ◌∙◌, arith}
use Rattle.std.proofs.lemmas.Grind.{common_steps}
use Rattle.mm_arena.specs.declared.slot.State.TheVariants.{Free}
use Rattle.mm_arena.specs.Slots.{IsLive, vacated}
use Rattle.mm_arena.proofs.Lemmas.Layout.{Removes-freed, Removes-retired}
use Rattle.mm_arena.proofs.arena.Arena.remove_live.Goals as goal

pub invariant_of-self : goal.invariant_of-self
invariant_of-self g c =
    let live = subst (λ s. IsLive s c.args.key) (sym c.self.view_is) c.requires in
    (Removes-retired _ c.self.invariant c.args.key live c.retire.result _ c.index_mut-slot.ensures.value c.retire.ensures.value _ c.if-slot-self.true c.retire.ensures.retired).laid_out

pub returns-then-slot-self-clause-slots : goal.returns-then-slot-self-clause-slots
returns-then-slot-self-clause-slots g c =
    let live = subst (λ s. IsLive s c.args.key) (sym c.self.view_is) c.requires in
    let removes = Removes-retired _ c.self.invariant c.args.key live c.retire.result _ c.index_mut-slot.ensures.value c.retire.ensures.value _ c.if-slot-self.true c.retire.ensures.retired in
    removes.shows ∙ ap (λ s. vacated s c.args.key) c.self.view_is

pub returns-then-slot-self-clause-dropped : goal.returns-then-slot-self-clause-dropped
returns-then-slot-self-clause-dropped g c =
    let live = subst (λ s. IsLive s c.args.key) (sym c.self.view_is) c.requires in
    let removes = Removes-retired _ c.self.invariant c.args.key live c.retire.result _ c.index_mut-slot.ensures.value c.retire.ensures.value _ c.if-slot-self.true c.retire.ensures.retired in
    rw (← c.self.view_is, removes.shows) removes.dropped

pub invariant_of-self-2 : goal.invariant_of-self-2
invariant_of-self-2 g c =
    let live = subst (λ s. IsLive s c.args.key) (sym c.self.view_is) c.requires in
    let freed = c.free.ensures.freed ∙ ap (λ next. record { generation = c.index_mut-slot.result.now.generation + 1; state = Free next }) c.replace-before.ensures.value in
    rw c.replace-before.ensures.after (Removes-freed _ c.self.invariant c.args.key live c.free.result _ c.index_mut-slot.ensures.value c.free.ensures.value _ c.if-slot-self.false freed).laid_out

pub returns-clause-slots : goal.returns-clause-slots
returns-clause-slots g c =
    let live = subst (λ s. IsLive s c.args.key) (sym c.self.view_is) c.requires in
    let freed = c.free.ensures.freed ∙ ap (λ next. record { generation = c.index_mut-slot.result.now.generation + 1; state = Free next }) c.replace-before.ensures.value in
    let removes = Removes-freed _ c.self.invariant c.args.key live c.free.result _ c.index_mut-slot.ensures.value c.free.ensures.value _ c.if-slot-self.false freed in
    rw c.replace-before.ensures.after (removes.shows ∙ ap (λ s. vacated s c.args.key) c.self.view_is)

pub returns-clause-dropped : goal.returns-clause-dropped
returns-clause-dropped g c =
    let live = subst (λ s. IsLive s c.args.key) (sym c.self.view_is) c.requires in
    let freed = c.free.ensures.freed ∙ ap (λ next. record { generation = c.index_mut-slot.result.now.generation + 1; state = Free next }) c.replace-before.ensures.value in
    let removes = Removes-freed _ c.self.invariant c.args.key live c.free.result _ c.index_mut-slot.ensures.value c.free.ensures.value _ c.if-slot-self.false freed in
    rw (c.replace-before.ensures.after, ← c.self.view_is, removes.shows) removes.dropped

pub overflow_sub-self : goal.overflow_sub-self
overflow_sub-self g c = grind (arith, common_steps)

pub index_mut-slot-requires : goal.index_mut-slot-requires
index_mut-slot-requires g c = grind (arith, common_steps)

pub retire-requires : goal.retire-requires
retire-requires g c = grind (arith, common_steps)

pub returns-then-slot-self-clause-value : goal.returns-then-slot-self-clause-value
returns-then-slot-self-clause-value g c = grind (arith, common_steps)

pub free-requires-clause-live : goal.free-requires-clause-live
free-requires-clause-live g c = grind (arith, common_steps)

pub returns-clause-value : goal.returns-clause-value
returns-clause-value g c = grind (arith, common_steps)
