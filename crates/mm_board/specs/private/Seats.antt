-- What ties a board, its publisher and its readers to the name that they carry.
use Rattle.std.specs.Prelude.{◌≡◌, ℕ, ◌+◌, ◌≤◌, [], length}
use Rattle.atomic_table.specs.Seated.{TableId}
use Rattle.mm_limits.specs.declared.TheConstants.{MAX_PROCESSES}
use Rattle.mm_board.specs.declared.views.View.TheVariants.{Publishes, Reads}
use Rattle.mm_board.specs.Steps.{SeatState, published_of, seen_of}

-- the words are those of the board, two for each process
abbrev pub IsBoardOf : TableId → TableId → ℕ → Type 0
IsBoardOf board table_id processes = (table_id ≡ board) × (processes + processes ≡ board.words) × (1 ≤ processes) × (processes ≤ MAX_PROCESSES)

-- the seat is a reader's
abbrev pub IsReading : SeatState → Type 0
IsReading me = me ≡ (Reads (seen_of me.0), [])

-- the seat is the publisher's
abbrev pub IsPublishing : SeatState → Type 0
IsPublishing me = me ≡ (Publishes (published_of me.0), [])

-- a reader of the board, which has seen a label of each process
abbrev pub IsReaderOf : TableId → TableId → SeatState → Type 0
IsReaderOf board table_id me =
    (table_id ≡ board) × IsReading me
    × (length (seen_of me.0).labels + length (seen_of me.0).labels ≡ board.words)

-- the publisher of the board, with a history and a holder for each process
abbrev pub IsPublisherOf : TableId → TableId → SeatState → Type 0
IsPublisherOf board table_id me =
    (table_id ≡ board) × IsPublishing me
    × (length (published_of me.0).histories + length (published_of me.0).histories ≡ board.words)
    × (length (published_of me.0).holders ≡ length (published_of me.0).histories)
