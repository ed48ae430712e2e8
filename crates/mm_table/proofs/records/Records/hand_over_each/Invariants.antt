use Rattle.std.proofs.Common.{◌≡◌, ℕ, [], Some, None, length}
use Rattle.mm_lists.specs.Members.{Among}
use Rattle.mm_rules.specs.TableState.{resources_of}
use Rattle.mm_rules.proofs.States.HandOverAll.{IsUnderWay}
use Rattle.mm_settle_lemmas.specs.Steps.Vacating.{IsVacating}
use Rattle.mm_table.proofs.records.Records.hand_over_each.Given as goal

-- `next` is owned still; where there is none, nothing is
abbrev pub invariant-loop-next : goal.invariant-loop-next
invariant-loop-next l = record {
  way : IsUnderWay l.fn.self l.self l.process;
  vacating : IsVacating l.fn.self l.process l.self l.fn.touched l.touched;
  owned : (r : ℕ) → l.next ≡ Some r → Among r (resources_of l.self l.process);
  none : l.next ≡ None → resources_of l.self l.process ≡ [];
}

abbrev pub decreases-loop-next : goal.decreases-loop-next
decreases-loop-next l = length (resources_of l.self l.process)
