use Rattle.std.proofs.Common.{◌≡◌, ℕ, Some, length}
use Rattle.mm_lists.specs.Members.{Among}
use Rattle.mm_tagged_lists.specs.TaggedLists.{list_at}
use Rattle.mm_tagged_lists.proofs.Lemmas.Walk.{rest_from}
use Rattle.mm_names.specs.Names.{name_of}
use Rattle.mm_names.proofs.names.find_in_list.Given as goal

-- `next` is in the list, and so is whoever has the name, in the part from `next` on
abbrev pub invariant-list : goal.invariant-list
invariant-list l = record {
  among : (q : ℕ) → l.next ≡ Some q → Among q (list_at l.index l.spot.list);
  left : (n : ℕ) → name_of l.places n ≡ Some l.name → Among n (rest_from (list_at l.index l.spot.list) l.next);
}

abbrev pub decreases-list : goal.decreases-list
decreases-list l = length (rest_from (list_at l.index l.spot.list) l.next)
