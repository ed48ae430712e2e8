-- What ties the parts to the words that they are of, and what a contract sees of them.
use Rattle.std.specs.Prelude.{◌≡◌, Bool, true, false, ℕ, ◌+◌, ◌*◌, ◌<◌, ◌≤◌, List, [], ◌∷◌, length, slice_get, slice_index, Some}
use Rattle.atomic_table.specs.Seated.{TableId}
use Rattle.mm_lists.specs.Members.{Among}
use Rattle.mm_thin.specs.declared.worker.TheConstants.{PLACES, RECORDS}
use Rattle.mm_thin.specs.declared.views.Part.{Part}
use Rattle.mm_thin.specs.declared.spread.Spread.{Spread}
use Rattle.mm_thin.specs.Spread.{bucket_by}
use Rattle.mm_thin.specs.declared.views.DeskView.{DeskView}
use Rattle.mm_thin.specs.declared.views.RecordView.{RecordView}
use Rattle.mm_thin.specs.declared.views.Part.TheVariants.{Desk, Record}
use Rattle.mm_thin.specs.Views.{no_desk, new_record}
use Rattle.mm_thin.specs.Steps.{SeatState, desk_in, record_in, text_in}

-- ---- the buckets

abbrev pub AreFree : List ℕ → Type 0
AreFree words = (b : ℕ) → b < length words → slice_index words b ≡ 0

-- the words and the texts of one opening, to which bucket a name belongs, and how many bytes a name may have that is locked here
pub record Opening : Type 0 where
  pub table : TableId
  pub spread : Spread
  pub bytes : ℕ

-- to which bucket a name belongs
abbrev pub bucket_of : Opening → List ℕ → ℕ
bucket_of of name = bucket_by of.spread name

-- the key is the number of words, and there is one at least; names fit into texts
abbrev pub AreBuckets : TableId → ℕ → Spread → ℕ → Type 0
AreBuckets table key spread bytes = (key ≡ table.words) × (0 < table.words) × (spread.buckets ≡ table.words) × (bytes ≤ 63)

-- ---- a record

-- a record that has taken nothing has its text in hand; else it has taken one bucket, and the text is not in hand
abbrev pub InHand : List ℕ → ℕ → List (ℕ × List ℕ) → Type 0
InHand [] number held = held ≡ (number, text_in held) ∷ []
InHand (b ∷ bs) number held = (held ≡ []) × (bs ≡ [])

-- the seat is that of a record
abbrev pub IsRecord : TableId → SeatState → Type 0
IsRecord table me =
    (me.0 ≡ Record (record_in me.0) ∷ []) × InHand (record_in me.0).taken (record_in me.0).number me.1 × ((record_in me.0).number < table.slots)

-- what a contract sees of a record
abbrev pub RecordState : Type 0
RecordState = TableId × RecordView

-- whether it has taken a bucket, which one, and for which name
abbrev pub Marks : Bool → ℕ → List ℕ → RecordState → Type 0
Marks false bucket name p = p.1.taken ≡ []
Marks true bucket name p = (p.1.taken ≡ bucket ∷ []) × (p.1.name ≡ name) × (bucket < p.0.words)

-- ---- a worker

pub record WorkerState : Type 0 where
  pub of : Opening
  pub at : ℕ
  pub records : List RecordView

-- the bucket is that of the name
abbrev pub IsPlaced : Opening → RecordView → Type 0
IsPlaced of r = (b : ℕ) → Among b r.taken → b ≡ bucket_of of r.name

-- a worker has so many records, of which it uses all but the first two
abbrev pub IsOfWorker : ℕ → ℕ → Type 0
IsOfWorker at number = (at * RECORDS ≤ number) × (number < at * RECORDS + RECORDS)

-- each record is of these words and of this worker, and has taken no bucket but that of its name
abbrev pub ArePlaced : Opening → ℕ → List RecordState → Type 0
ArePlaced of at records = (k : ℕ) (p : RecordState) → slice_get records k ≡ Some p → (p.0 ≡ of.table) × IsOfWorker at p.1.number × IsPlaced of p.1

-- the same of the records that a worker uses, of which those from this place on have taken nothing
pub record AreUsed (of : Opening) (at : ℕ) (records : List RecordState) (used : ℕ) : Type 0 where
  pub placed : ArePlaced of at records
  pub full : length records ≡ PLACES
  pub within : used ≤ PLACES
  pub rest : (k : ℕ) (p : RecordState) → used ≤ k → slice_get records k ≡ Some p → p.1.taken ≡ []

-- ---- the office

-- what a badge knows
abbrev pub view_in : List (List Part) → List Part
view_in [] = []
view_in (v ∷ vs) = v

-- the badge is that of the office, which reads nothing
abbrev pub IsDesk : List (List Part) → Type 0
IsDesk views = (views ≡ (Desk (desk_in (view_in views)) ∷ []) ∷ []) × ((desk_in (view_in views)).reading ≡ [])

-- what a contract sees of an office
pub record OfficeState : Type 0 where
  pub of : Opening
  pub desk : DeskView
  pub workers : ℕ
  pub max_workers : ℕ

abbrev pub with_desk : OfficeState → DeskView → OfficeState
with_desk o d = record o { desk = d }

-- this many records that were made one after another, and have taken nothing
abbrev pub AreNew : TableId × DeskView → ℕ → List RecordState → Type 0
AreNew before n made = (length made ≡ n) × ((k : ℕ) (p : RecordState) → slice_get made k ≡ Some p → p ≡ (before.0, new_record (before.1.records + k)))

-- the part is of these words, and there are so many records a worker, and texts for all that there can be and two more
abbrev pub IsOffice : Opening → TableId × DeskView → ℕ → ℕ → Type 0
IsOffice of desk workers max_workers =
    (desk.0 ≡ of.table) × (desk.1.records ≡ workers * RECORDS) × (workers ≤ max_workers) × (max_workers ≤ 65536) × (of.table.slots ≡ max_workers * RECORDS + 2)

-- this many words and texts, and an office that knows of nothing
abbrev pub IsOpened : Spread → ℕ → ℕ → Opening → TableId × DeskView → Type 0
IsOpened spread texts bytes of desk =
    (of.table.words ≡ spread.buckets) × (of.table.slots ≡ texts) × (of.bytes ≡ bytes) × (of.spread ≡ spread) × (desk ≡ (of.table, no_desk))
