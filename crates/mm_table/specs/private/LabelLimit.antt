-- Labels that are shown, and the label limit.
use Rattle.std.specs.Prelude.{◌≡◌, ℕ, ◌+◌, [], ◌∷◌, ◌++◌, IsTrue, slice_set}
use Rattle.mm_arena.specs.declared.key.Key.{Key}
use Rattle.mm_label.specs.Label.{Label}
use Rattle.mm_rules.specs.TableState.{TableState, public_of}
use Rattle.mm_rules.specs.Change.{block_fits}

-- some process has this public label
abbrev pub IsShown : TableState → Label → Type 0
IsShown s label = (n : ℕ) × (label ≡ public_of s n)

-- both labels of n are this one
abbrev pub labelled : TableState → ℕ → Label → TableState
labelled s n label = record s { private = slice_set s.private n label; public = slice_set s.public n label }

-- after an accepted acquire by which the key waits for a resource under this label
abbrev pub waiting : TableState → Key → ℕ → Label → TableState
waiting s key resource label = record (labelled s key.process label) {
  waits = s.waits ++ record { key = key; resource = resource } ∷ [];
  totals = record s.totals { accepted = s.totals.accepted + 1 };
}

-- the limit allows each label that one block can make
abbrev pub AllLabelsFit : TableState → Type 0
AllLabelsFit s = (n h : ℕ) → IsTrue (block_fits s n h)
