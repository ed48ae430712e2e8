use Rattle.std.proofs.Common.{◌≡◌, ◌⊎◌, ℕ, Some, length, IsTrue}
use Rattle.mm_lists.specs.Members.{Among}
use Rattle.mm_tagged_lists.specs.TaggedLists.{list_at}
use Rattle.mm_tagged_lists.proofs.Lemmas.Walk.{rest_from}
use Rattle.mm_rules.specs.Change.{hand_over_fits}
use Rattle.mm_table.proofs.records.Records.vacate_fits.Given as goal

-- `next` is in the list, and each resource of the list fits or is still to come
abbrev pub invariant-loop-next : goal.invariant-loop-next
invariant-loop-next l =
    ((q : ℕ) → l.next ≡ Some q → Among q (list_at l.self-inside.owned l.process))
    × ((q : ℕ) → Among q (list_at l.self-inside.owned l.process) → IsTrue (hand_over_fits l.self q) ⊎ Among q (rest_from (list_at l.self-inside.owned l.process) l.next))

abbrev pub decreases-loop-next : goal.decreases-loop-next
decreases-loop-next l = length (rest_from (list_at l.self-inside.owned l.process) l.next)
