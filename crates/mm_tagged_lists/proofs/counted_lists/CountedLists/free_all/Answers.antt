use Rattle.std.proofs.Common.{◌<◌, length, sym, subst}
use Rattle.mm_tagged_lists.specs.TaggedLists.{Listing}
use Rattle.mm_tagged_lists.proofs.Lemmas.Counted.{counted_freed_all}
use Rattle.mm_tagged_lists.proofs.counted_lists.CountedLists.free_all.Goals as goal

pub invariant_of-self : goal.invariant_of-self
invariant_of-self c =
    let s = c.self.inside.lists in
    let below = subst (λ (s : Listing). c.args.list < length s.lists) (sym c.self.view_is) c.requires in
    rw (c.free_all.ensures.freed) (counted_freed_all s c.self.inside.lens.items c.keeps_laws.ensures.matched c.self.invariant c.args.list below)
