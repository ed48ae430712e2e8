use Rattle.std.proofs.Common.{◌<◌, arith, sym, ap, refl, subst, length, ◌∙◌}
use Rattle.std.specs.Option.{ok_or}
use Rattle.std.proofs.lemmas.Option.{slice_get_read}
use Rattle.mm_arena.specs.Slots.{next_key, filled, inserted}
use Rattle.mm_arena.specs.private.Layout.{HasFree}
use Rattle.mm_arena.proofs.Lemmas.Layout.{newest_is_free, Inserts-freed, Inserts-untouched, none_free}
use Rattle.mm_arena.proofs.arena.Arena.insert.Goals as goal

pub index_mut-slot-requires : goal.index_mut-slot-requires
index_mut-slot-requires g c =
    let first = newest_is_free _ c.self.invariant c.in-Some.process c.in-Some.is in
    omega (arith, first.0)

pub fill-self-inside-requires : goal.fill-self-inside-requires
fill-self-inside-requires g c =
    let slots = c.self.inside.slots.items in
    let first = newest_is_free _ c.self.invariant c.in-Some.process c.in-Some.is in
    subst HasFree (slice_get_read slots (length slots) c.in-Some.process _ refl first.0 c.index_mut-slot.ensures.value) first.1

pub invariant_of-self : goal.invariant_of-self
invariant_of-self g c =
    (Inserts-freed _ c.self.invariant c.in-Some.process c.args.value _ _ _ c.index_mut-slot.ensures.value c.fill-self-inside.ensures.link c.fill-self-inside.ensures.filled c.in-Some.is).laid_out

pub returns-in-Some-clause-key : goal.returns-in-Some-clause-key
returns-in-Some-clause-key g c =
    let inserts = Inserts-freed _ c.self.invariant c.in-Some.process c.args.value _ _ _ c.index_mut-slot.ensures.value c.fill-self-inside.ensures.link c.fill-self-inside.ensures.filled c.in-Some.is in
    ap (λ key. ok_or key c.args.value) (sym inserts.key ∙ ap next_key c.self.view_is)

pub returns-in-Some-clause-slots : goal.returns-in-Some-clause-slots
returns-in-Some-clause-slots g c =
    let inserts = Inserts-freed _ c.self.invariant c.in-Some.process c.args.value _ _ _ c.index_mut-slot.ensures.value c.fill-self-inside.ensures.link c.fill-self-inside.ensures.filled c.in-Some.is in
    inserts.shows ∙ ap (λ s. inserted s c.args.value) c.self.view_is

pub returns-in-Some-clause-added : goal.returns-in-Some-clause-added
returns-in-Some-clause-added g c =
    let inserts = Inserts-freed _ c.self.invariant c.in-Some.process c.args.value _ _ _ c.index_mut-slot.ensures.value c.fill-self-inside.ensures.link c.fill-self-inside.ensures.filled c.in-Some.is in
    rw (← c.self.view_is, inserts.shows) inserts.added

pub returns-then-process-len-clause-key : goal.returns-then-process-len-clause-key
returns-then-process-len-clause-key g c =
    let none = none_free _ c.self.invariant c.in_default.is (omega arith) in
    rw (← c.self.view_is, none) refl

pub returns-then-process-len-clause-slots : goal.returns-then-process-len-clause-slots
returns-then-process-len-clause-slots g c =
    let none = none_free _ c.self.invariant c.in_default.is (omega arith) in
    sym (ap (filled c.args.self.now c.args.value) (ap (λ s. s.free) (sym c.self.view_is) ∙ none))

pub fill-requires : goal.fill-requires
fill-requires g c =
    let slots = c.self.inside.slots.items in
    let within : c.self.inside.unused < length slots = omega (arith, c.self.invariant.within) in
    subst HasFree (slice_get_read slots (length slots) c.self.inside.unused _ refl within c.index_mut-slot-2.ensures.value)
    (c.self.invariant.untouched c.self.inside.unused (omega arith) within)

pub invariant_of-self-2 : goal.invariant_of-self-2
invariant_of-self-2 g c =
    (Inserts-untouched _ c.self.invariant c.self.inside.unused c.args.value _ _ _ c.index_mut-slot-2.ensures.value c.fill.ensures.link c.fill.ensures.filled c.in_default.is refl (omega (arith, c.self.invariant.within))).laid_out

pub returns-clause-key : goal.returns-clause-key
returns-clause-key g c =
    let inserts = Inserts-untouched _ c.self.invariant c.self.inside.unused c.args.value _ _ _ c.index_mut-slot-2.ensures.value c.fill.ensures.link c.fill.ensures.filled c.in_default.is refl (omega (arith, c.self.invariant.within)) in
    ap (λ key. ok_or key c.args.value) (sym inserts.key ∙ ap next_key c.self.view_is)

pub returns-clause-slots : goal.returns-clause-slots
returns-clause-slots g c =
    let inserts = Inserts-untouched _ c.self.invariant c.self.inside.unused c.args.value _ _ _ c.index_mut-slot-2.ensures.value c.fill.ensures.link c.fill.ensures.filled c.in_default.is refl (omega (arith, c.self.invariant.within)) in
    inserts.shows ∙ ap (λ s. inserted s c.args.value) c.self.view_is

pub returns-clause-added : goal.returns-clause-added
returns-clause-added g c =
    let inserts = Inserts-untouched _ c.self.invariant c.self.inside.unused c.args.value _ _ _ c.index_mut-slot-2.ensures.value c.fill.ensures.link c.fill.ensures.filled c.in_default.is refl (omega (arith, c.self.invariant.within)) in
    rw (← c.self.view_is, inserts.shows) inserts.added
