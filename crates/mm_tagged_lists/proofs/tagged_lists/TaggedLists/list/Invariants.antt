use Rattle.std.proofs.Common.{◌≡◌, ℕ, Some, ◌++◌, length, vec_capacity}
use Rattle.mm_lists.specs.Members.{Among}
use Rattle.mm_tagged_lists.specs.TaggedLists.{list_at}
use Rattle.mm_tagged_lists.proofs.Lemmas.Walk.{rest_from}
use Rattle.mm_tagged_lists.proofs.tagged_lists.TaggedLists.list.Given as goal

-- `next` is in the list, and what is listed, and the list from `next` on, is the list
abbrev pub invariant-list : goal.invariant-list
invariant-list l = record {
  among : (q : ℕ) → l.next ≡ Some q → Among q (list_at l.self l.list);
  whole : l.items.items ++ rest_from (list_at l.self l.list) l.next ≡ list_at l.self l.list;
  room : vec_capacity l.items ≡ vec_capacity l.fn.items;
}

abbrev pub decreases-list : goal.decreases-list
decreases-list l = length (rest_from (list_at l.self l.list) l.next)
