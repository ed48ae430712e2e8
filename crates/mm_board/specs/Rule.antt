-- The rule of a board: what holds between any two steps of its words, of what the publisher stored, and of what readers have seen.
use Rattle.std.specs.Prelude.{◌≡◌, ℕ, ◌+◌, ◌<◌, ◌≤◌, List, length, IfSome, IsTrue, slice_index}
use mathlib.Core.Option.{some}
use lib.ListN.{get_elem?}
use Rattle.atomic_table.specs.Table.{State}
use Rattle.mm_label.specs.Label.{Label, label_le, label_of, opening_label}
use Rattle.mm_lists.specs.Members.{Among}
use Rattle.mm_board.specs.declared.views.Published.{Published}
use Rattle.mm_board.specs.declared.views.View.{View}
use Rattle.mm_board.specs.declared.views.View.TheVariants.{Publishes, Reads, Spent}
use Rattle.mm_board.specs.Views.{label_at, history, current_label, current_holder, holder_of, IsAnother}

-- no label is below one before it
abbrev pub Rises : List Label → Type 0
Rises labels = (i j : ℕ) → i ≤ j → j < length labels → IsTrue (label_le (label_at labels i) (label_at labels j))

-- the history of process i: it begins with the opening label, and rises
abbrev pub IsHistory : ℕ → List Label → Type 0
IsHistory i labels = (0 < length labels) × (label_at labels 0 ≡ opening_label i) × Rises labels

-- a label for each process, which was stored there
abbrev pub WereStored : Published → List Label → Type 0
WereStored p labels = (length labels ≡ length p.histories) × ((i : ℕ) → i < length p.histories → Among (label_at labels i) (history p i))

-- the words keep what the publisher stored last: the labels of all processes, and then the holders
pub record IsPublished (words : List ℕ) (p : Published) : Type 0 where
  pub words_sized : length words ≡ length p.histories + length p.histories
  pub holders_sized : length p.holders ≡ length p.histories
  pub labels : (i : ℕ) → i < length p.histories → label_of (slice_index words i) ≡ current_label p i
  pub holders : (i : ℕ) → i < length p.histories → holder_of (slice_index words (length p.histories + i)) ≡ current_holder p i
  pub others : (i : ℕ) → i < length p.histories → IfSome (current_holder p i) (λ holder. IsAnother (length p.histories) i holder)
  pub histories : (i : ℕ) → i < length p.histories → IsHistory i (history p i)
  pub met : WereStored p p.met

-- what a seat may know, if p was stored from the seat `publisher`: that seat alone knows p, and a reader labels that were stored at some time
abbrev pub MayKnow : Published → ℕ → ℕ → View → Type 0
MayKnow p publisher seat (Publishes q) = (seat ≡ publisher) × (q ≡ p)
MayKnow p publisher seat (Reads seen) = WereStored p seen.labels
MayKnow p publisher seat Spent = Unit {0}

-- the words and the views as plain data. A board has no slots
abbrev pub BoardState : Type 0
BoardState = State (Unit {0}) View

-- the rule: there is one publisher, the words are what it stored last, and each seat knows what it may
pub record IsBoard (s : BoardState) : Type 0 where
  pub published : Published
  pub publisher : ℕ
  pub words : IsPublished s.words published
  pub publishes : get_elem? s.views publisher ≡ some (Publishes published)
  pub views : (seat : ℕ) (view : View) → get_elem? s.views seat ≡ some view → MayKnow published publisher seat view
