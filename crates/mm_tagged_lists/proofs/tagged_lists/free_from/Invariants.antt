use Rattle.std.proofs.Common.{length}
use Rattle.mm_links.specs.Chain.{walk}
use Rattle.mm_tagged_lists.specs.private.Linked.{links_of}
use Rattle.mm_tagged_lists.proofs.Lemmas.Path.{IsLeft}
use Rattle.mm_tagged_lists.proofs.tagged_lists.free_from.Given as goal

-- those from `next` on are left to be freed
abbrev pub invariant-all : goal.invariant-all
invariant-all l = record {
  left : IsLeft l.fn.items l.fn.first l.items l.next;
}

abbrev pub decreases-all : goal.decreases-all
decreases-all l = length (walk (links_of l.items) (length (links_of l.items)) l.next)
