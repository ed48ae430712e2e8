-- The words of a new board.
use Rattle.std.specs.Prelude.{◌≡◌, ℕ, ◌+◌, ◌<◌, List, length, None, slice_index}
use Rattle.mm_label.specs.Label.{label_of, opening_label}
use Rattle.mm_board.specs.Views.{holder_of}

-- the opening label of each process, and then no holder of any
pub record AreOpening (words : List ℕ) (processes : ℕ) : Type 0 where
  pub sized : length words ≡ processes + processes
  pub labels : (i : ℕ) → i < processes → label_of (slice_index words i) ≡ opening_label i
  pub holders : (i : ℕ) → i < processes → holder_of (slice_index words (processes + i)) ≡ None
