use Rattle.std.proofs.Common.{◌≡◌, ◌≤◌, ℕ, ◌+◌, ◌*◌, ◌<◌, length, None, vec_capacity}
use Rattle.std.specs.Prelude.{slice_index}
use Rattle.mm_label.specs.Label.{label_of, opening_label}
use Rattle.mm_board.specs.Views.{holder_of}
use Rattle.mm_board.proofs.board.opening_words.Given as goal

abbrev pub invariant-loop-process : goal.invariant-loop-process
invariant-loop-process l = record {
  sized : length l.words.items ≡ l.process;
  labels : (i : ℕ) → i < l.process → label_of (slice_index l.words.items i) ≡ opening_label i;
  room : 2 * l.fn.processes ≤ vec_capacity l.words;
}

abbrev pub invariant-loop : goal.invariant-loop
invariant-loop l = record {
  sized : length l.words.items ≡ l.processes + l.counter;
  labels : (i : ℕ) → i < l.processes → label_of (slice_index l.words.items i) ≡ opening_label i;
  holders : (i : ℕ) → i < l.counter → holder_of (slice_index l.words.items (l.processes + i)) ≡ None;
  room : 2 * l.processes ≤ vec_capacity l.words;
}
