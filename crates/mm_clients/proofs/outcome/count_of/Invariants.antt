use Rattle.std.specs.Prelude.{◌≡◌, ◌≤◌, ◌+◌, count_by, take}
use Rattle.mm_clients.specs.End.{is_finished, is_aborted, is_spent, is_refused}
use Rattle.mm_clients.proofs.outcome.count_of.Given as goal

abbrev pub invariant-loop-end : goal.invariant-loop-end
invariant-loop-end l = record {
  few : l.counted.finished + l.counted.aborted + l.counted.spent + l.counted.refused ≤ l.end-index + l.fn.earlier.finished + l.fn.earlier.aborted;
  finished : l.counted.finished ≡ count_by is_finished (take l.end-index l.ends) + l.fn.earlier.finished;
  aborted : l.counted.aborted ≡ count_by is_aborted (take l.end-index l.ends) + l.fn.earlier.aborted;
  spent : l.counted.spent ≡ count_by is_spent (take l.end-index l.ends);
  refused : l.counted.refused ≡ count_by is_refused (take l.end-index l.ends);
}
