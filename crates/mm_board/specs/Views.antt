-- What the publisher and the readers of a board know, and how calls change it.
use Rattle.std.specs.Prelude.{◌≢◌, ℕ, ◌+◌, ◌-◌, ◌/◌, ◌<◌, ◌==◌, List, [], ◌∷◌, ◌++◌, map, length, replicate, Option, None, Some, IsTrue, if◌then◌else◌, slice_index_or, slice_set}
use Rattle.std.specs.List.{range_with_len}
use Rattle.atomic_table.specs.Seated.{TableId}
use Rattle.mm_label.specs.Label.{Label, label_le, opening_label}
use Rattle.mm_board.specs.declared.views.Published.{Published}
use Rattle.mm_board.specs.declared.views.Seen.{Seen}

-- the label in this place of a list; 0.0 if there is none
abbrev pub label_at : List Label → ℕ → Label
label_at labels i = slice_index_or labels i (opening_label 0)

-- the last label of a list
abbrev pub last_label : List Label → Label
last_label labels = label_at labels (length labels - 1)

-- each label that was stored for process i, in order; the opening label comes first
abbrev pub history : Published → ℕ → List Label
history p i = slice_index_or p.histories i []

-- the label that was stored last for process i
abbrev pub current_label : Published → ℕ → Label
current_label p i = last_label (history p i)

-- the same of each process
abbrev pub current_labels : Published → List Label
current_labels p = map last_label p.histories

-- the holder that was stored last for process i
abbrev pub current_holder : Published → ℕ → Option ℕ
current_holder p i = slice_index_or p.holders i None

-- after this label is stored for process i
abbrev pub with_label : Published → ℕ → Label → Published
with_label p i label = record p { histories = slice_set p.histories i (history p i ++ label ∷ []) }

-- after this holder is stored for process i
abbrev pub with_holder : Published → ℕ → Option ℕ → Published
with_holder p i holder = record p { holders = slice_set p.holders i holder; holders_stored = p.holders_stored + 1 }

-- after the board is shown to a reader that had seen these labels
abbrev pub with_met : Published → List Label → Published
with_met p labels = record p { met = labels }

-- after a reader loads this label of process i
abbrev pub with_seen : Seen → ℕ → Label → Seen
with_seen s i label = record { labels = slice_set s.labels i label; loads = s.loads + 1 }

-- a new reader, which has seen these labels
abbrev pub new_seen : List Label → Seen
new_seen labels = record { labels = labels; loads = 0 }

-- of each process (0, i)
abbrev pub opening_labels : ℕ → List Label
opening_labels processes = map opening_label (range_with_len 0 processes)

-- at first: of each process the opening label alone, and no holder
abbrev pub opening_published : ℕ → Published
opening_published processes = record {
  histories = map (λ i. opening_label i ∷ []) (range_with_len 0 processes);
  holders = replicate processes None;
  holders_stored = 0;
  met = opening_labels processes;
}

-- of a board with this many processes, this is one of them, and not process i
abbrev pub IsAnother : ℕ → ℕ → ℕ → Type 0
IsAnother processes i other = (other < processes) × (other ≢ i)

-- no label is below the one that was in its place
abbrev pub NoneFalls : List Label → List Label → Type 0
NoneFalls before after = (i : ℕ) → IsTrue (label_le (label_at before i) (label_at after i))

-- the holder that a word keeps: none, or the process whose number is one less
abbrev pub holder_of : ℕ → Option ℕ
holder_of word = if word == 0 then None else Some (word - 1)

-- how many processes a board has: two words each
abbrev pub processes_of : TableId → ℕ
processes_of board = board.words / 2

-- the name of no board
abbrev pub no_board : TableId
no_board = record { words = 0; slots = 0; views_name = 0; atom = 0; block = 0; offset = 0; slot_names = [] }
