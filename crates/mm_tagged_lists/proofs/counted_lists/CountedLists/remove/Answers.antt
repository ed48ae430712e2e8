use Rattle.std.proofs.Common.{◌≡◌, sym, subst, ◌∙◌, arith}
use Rattle.mm_tagged_lists.specs.TaggedLists.{freed}
use Rattle.mm_tagged_lists.proofs.Lemmas.Counted.{list_below, read_length, some_freed, counted_freed}
use Rattle.mm_tagged_lists.proofs.Lemmas.ListsMatchSpots.{freed_unlisted}
use Rattle.mm_tagged_lists.proofs.counted_lists.CountedLists.remove.Goals as goal

pub returns-in_default : goal.returns-in_default
returns-in_default c =
    let same = freed_unlisted c.self.inside.lists c.args.item c.keeps_laws.ensures.matched (sym c.spot.ensures.spot ∙ c.in_default.is) in
    subst (λ s. s ≡ freed s c.args.item) c.self.view_is (sym same)

pub overflow_sub-index_mut : goal.overflow_sub-index_mut
overflow_sub-index_mut c =
    let s = c.self.inside.lists in
    let lens = c.self.inside.lens.items in
    let spot = c.in-Some.spot in
    let placed = sym c.spot.ensures.spot ∙ c.in-Some.is in
    let below = list_below s lens c.keeps_laws.ensures.matched c.self.invariant spot c.args.item placed in
    let was = read_length s lens c.keeps_laws.ensures.matched c.self.invariant spot.list _ _ below c.index_mut.ensures.value in
    omega (arith, was, some_freed s lens c.keeps_laws.ensures.matched c.self.invariant spot c.args.item placed)

pub invariant_of-self : goal.invariant_of-self
invariant_of-self c =
    let s = c.self.inside.lists in
    let lens = c.self.inside.lens.items in
    let spot = c.in-Some.spot in
    let placed = sym c.spot.ensures.spot ∙ c.in-Some.is in
    let below = list_below s lens c.keeps_laws.ensures.matched c.self.invariant spot c.args.item placed in
    let was = read_length s lens c.keeps_laws.ensures.matched c.self.invariant spot.list _ _ below c.index_mut.ensures.value in
    let some = some_freed s lens c.keeps_laws.ensures.matched c.self.invariant spot c.args.item placed in
    rw (c.remove.ensures) (counted_freed s lens c.keeps_laws.ensures.matched c.self.invariant spot c.args.item _ placed (omega (arith, was, some)))
