-- The kinds of step on a board: what each one tells, and how it changes the view of the seat that makes it.
use Rattle.std.specs.Prelude.{◌≡◌, ℕ, ◌+◌, [], length, IfSome, IsTrue}
use Rattle.atomic_table.specs.Table.{Me, Step}
use Rattle.mm_label.specs.Label.{label_le, label_of}
use Rattle.mm_board.specs.declared.views.Published.{Published}
use Rattle.mm_board.specs.declared.views.Seen.{Seen}
use Rattle.mm_board.specs.declared.views.View.{View}
use Rattle.mm_board.specs.declared.views.View.TheVariants.{Publishes, Reads, Spent}
use Rattle.mm_board.specs.Views.{label_at, current_labels, with_label, with_holder, with_met, with_seen, new_seen, holder_of, IsAnother, NoneFalls}

-- a seat with its view. It holds no slots
abbrev pub SeatState : Type 0
SeatState = Me (Unit {0}) View

abbrev pub StepOf : Type 0
StepOf = Step (Unit {0})

-- what the publisher knows, and what a reader knows
abbrev pub published_of : View → Published
published_of (Publishes p) = p
published_of _ = record { histories = []; holders = []; holders_stored = 0; met = [] }

abbrev pub seen_of : View → Seen
seen_of (Reads s) = s
seen_of _ = new_seen []

-- load label: the reader has seen the label of that word, which is not below what it had seen
abbrev pub LabelLoaded : StepOf → SeatState → ℕ → SeatState → Type 0
LabelLoaded step before found after =
    (after ≡ (Reads (with_seen (seen_of before.0) step.word (label_of found)), before.1))
    × IsTrue (label_le (label_at (seen_of before.0).labels step.word) (label_of found))

-- load holder: the word of process i keeps no holder, or another process
abbrev pub HolderLoaded : StepOf → SeatState → ℕ → SeatState → Type 0
HolderLoaded step before found after =
    let processes = length (seen_of before.0).labels in
    (after ≡ before)
    × ((i : ℕ) → step.word ≡ processes + i → IfSome (holder_of found) (λ holder. IsAnother processes i holder))

-- store label: the label of that word goes last in the history of its process
abbrev pub LabelStored : StepOf → SeatState → ℕ → SeatState → Type 0
LabelStored step before found after =
    after ≡ (Publishes (with_label (published_of before.0) step.word (label_of step.first)), before.1)

-- store holder: the holder of process i is what the word keeps
abbrev pub HolderStored : StepOf → SeatState → ℕ → SeatState → Type 0
HolderStored step before found after =
    (i : ℕ) → step.word ≡ length (published_of before.0).histories + i
    → after ≡ (Publishes (with_holder (published_of before.0) i (holder_of step.first)), before.1)

-- split: the new reader has seen what the reader has
abbrev pub reader_of_reader : View → View
reader_of_reader (Reads s) = Reads (new_seen s.labels)
reader_of_reader _ = Spent

-- show's split: the new reader has seen every current label
abbrev pub reader_of_publisher : View → View
reader_of_publisher (Publishes p) = Reads (new_seen (current_labels p))
reader_of_publisher _ = Spent

-- show's join: the publisher has met the labels that the old reader had seen
abbrev pub having_met : View → View → View
having_met (Publishes p) old = Publishes (with_met p (seen_of old).labels)
having_met _ old = Spent

-- show's look: no label met is above the current one
abbrev pub Looked : StepOf → SeatState → ℕ → SeatState → Type 0
Looked step before found after =
    (after ≡ before) × NoneFalls (published_of before.0).met (current_labels (published_of before.0))
