use Rattle.std.proofs.Common.{arith, ◌≡◌, ◌<◌, None, length, sym, subst}
use Rattle.mm_tagged_lists.specs.TaggedLists.{Listing, spot_at}
use Rattle.mm_tagged_lists.proofs.Lemmas.Counted.{read_length, few_given, counted_given}
use Rattle.mm_tagged_lists.proofs.counted_lists.CountedLists.push.Goals as goal

pub overflow_add-index_mut : goal.overflow_add-index_mut
overflow_add-index_mut c =
    let s = c.self.inside.lists in
    let lens = c.self.inside.lens.items in
    let free = subst (λ s. spot_at s c.args.item ≡ None) (sym c.self.view_is) c.requires.unlisted in
    let item = subst (λ (s : Listing). c.args.item < length s.spots) (sym c.self.view_is) c.requires.item_in_range in
    let below = subst (λ (s : Listing). c.args.spot.list < length s.lists) (sym c.self.view_is) c.requires.list_in_range in
    let few = few_given s lens c.keeps_laws.ensures.matched c.self.invariant c.args.spot c.args.item free item in
    let was = read_length s lens c.keeps_laws.ensures.matched c.self.invariant c.args.spot.list _ _ below c.index_mut.ensures.value in
    omega (arith, few, c.keeps_laws.ensures.few, was)

pub invariant_of-self : goal.invariant_of-self
invariant_of-self c =
    let s = c.self.inside.lists in
    let lens = c.self.inside.lens.items in
    let below = subst (λ (s : Listing). c.args.spot.list < length s.lists) (sym c.self.view_is) c.requires.list_in_range in
    let was = read_length s lens c.keeps_laws.ensures.matched c.self.invariant c.args.spot.list _ _ below c.index_mut.ensures.value in
    rw (c.push.ensures) (counted_given s lens c.keeps_laws.ensures.matched c.self.invariant c.args.spot c.args.item _ below (omega (arith, was)))
