use Rattle.std.proofs.Common.{◌≤◌, ◌-◌}
use Rattle.mm_board.specs.Views.{NoneFalls}
use Rattle.mm_board.proofs.reader.Reader.first_hint.Given as goal

abbrev pub invariant-loop-next : goal.invariant-loop-next
invariant-loop-next g l = record {
  onward : l.fn.from ≤ l.next;
  rises : NoneFalls l.fn.self.labels l.self.labels;
}

abbrev pub decreases-loop-next : goal.decreases-loop-next
decreases-loop-next g l = l.board - l.next
