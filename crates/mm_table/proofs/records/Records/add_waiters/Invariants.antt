use Rattle.std.proofs.Common.{◌≡◌, ◌⊎◌, ℕ, true, Some, length}
use Rattle.mm_lists.specs.Members.{Among}
use Rattle.mm_bit_set.specs.BitSet.{has}
use Rattle.mm_tagged_lists.specs.TaggedLists.{list_at}
use Rattle.mm_tagged_lists.proofs.Lemmas.Walk.{rest_from}
use Rattle.mm_rules.specs.TableState.{Wait, waiters_of}
use Rattle.mm_table.proofs.records.Records.add_waiters.Given as goal

-- `next` is in the list, and the queue of each resource of the list was added or is still to come
abbrev pub invariant-loop-next : goal.invariant-loop-next
invariant-loop-next l = record {
  listed : (q : ℕ) → l.next ≡ Some q → Among q (list_at l.self-inside.owned l.holder);
  kept : (k : ℕ) → has l.fn.set k ≡ true → has l.set k ≡ true;
  added : (q : ℕ) → Among q (list_at l.self-inside.owned l.holder)
      → ((w : Wait) → Among w (waiters_of l.self q) → has l.set w.key.process ≡ true) ⊎ Among q (rest_from (list_at l.self-inside.owned l.holder) l.next);
  sized : length l.set ≡ length l.fn.set;
}

abbrev pub decreases-loop-next : goal.decreases-loop-next
decreases-loop-next l = length (rest_from (list_at l.self-inside.owned l.holder) l.next)
