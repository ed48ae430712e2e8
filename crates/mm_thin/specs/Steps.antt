-- The kinds of step: what each one tells, and how it changes what the seat that makes it knows and holds.
use Rattle.std.specs.Prelude.{◌≡◌, ◌≢◌, ℕ, ◌<◌, List, [], ◌∷◌, ◌++◌}
use Rattle.atomic_table.specs.Table.{Me, Step}
use Rattle.mm_lists.specs.Members.{Among}
use Rattle.mm_thin.specs.declared.views.Lent.{Lent}
use Rattle.mm_thin.specs.declared.views.DeskView.{DeskView}
use Rattle.mm_thin.specs.declared.views.RecordView.{RecordView}
use Rattle.mm_thin.specs.declared.views.Part.{Part}
use Rattle.mm_thin.specs.declared.views.Part.TheVariants.{Desk, Record}
use Rattle.mm_thin.specs.Views.{no_desk, new_record, more_records, loan, with_taken, idle, with_fat, with_reading, done_reading, without_fat, without_lent, thinned}
use Rattle.mm_thin.specs.Rule.{thin, IsFat, IsLent}

-- a seat with its view, and the texts that it holds
abbrev pub SeatState : Type 0
SeatState = Me (List ℕ) (List Part)

abbrev pub StepOf : Type 0
StepOf = Step (List ℕ)

-- ---- what a view has

abbrev pub desk_in : List Part → DeskView
desk_in [] = no_desk
desk_in (Desk d ∷ ps) = d
desk_in (Record r ∷ ps) = desk_in ps

abbrev pub record_in : List Part → RecordView
record_in [] = new_record 0
record_in (Desk d ∷ ps) = record_in ps
record_in (Record r ∷ ps) = r

-- the text that was taken last
abbrev pub text_in : List (ℕ × List ℕ) → List ℕ
text_in [] = []
text_in (x ∷ xs) = x.1

-- ---- two parts meet and part

abbrev pub meeting : List Part → List Part → List Part
meeting v w = v ++ w

abbrev pub first_of : List Part → List Part
first_of [] = []
first_of (p ∷ ps) = p ∷ []

abbrev pub others_of : List Part → List Part
others_of [] = []
others_of (p ∷ ps) = ps

-- the office makes a record, whose text is in hand
abbrev pub IsMade : StepOf → SeatState → ℕ → SeatState → Type 0
IsMade step before found after =
    let d = desk_in before.0 in
    (name : List ℕ) × (after ≡ (Record (new_record d.records) ∷ Desk (more_records d) ∷ [], (d.records, name) ∷ []))

-- ---- a record alone

-- the bucket is taken, for the name in hand, if its word was found free; the text goes home
abbrev pub Taken : StepOf → SeatState → ℕ → SeatState → Type 0
Taken step before found after =
    (found ≡ 0 → after ≡ (Record (with_taken (record_in before.0) step.word (text_in before.1)) ∷ [], []))
    × (found ≢ 0 → after ≡ before)

-- the bucket is not the record's any more if its word was found as it was thought to be, and the text is in hand again
abbrev pub GivenUp : StepOf → SeatState → ℕ → SeatState → Type 0
GivenUp step before found after =
    let r = record_in before.0 in
    (found ≡ step.first → after ≡ (Record (idle r) ∷ [], (r.number, r.name) ∷ []))
    × (found ≢ step.first → after ≡ before)

-- ---- the office alone

-- the word of a bucket says whether it is fat, whether it is lent, and whether there is the record that it is thin of
abbrev pub Tells : DeskView → ℕ → ℕ → Type 0
Tells d bucket found =
    (IsFat found → Among bucket d.fat) × (Among bucket d.fat → IsFat found) × ((i : ℕ) → found ≡ thin i → i < d.records)
    × (IsLent found → (l : Lent) × Among l d.lent × (l.bucket ≡ bucket))

abbrev pub Seen : StepOf → SeatState → ℕ → SeatState → Type 0
Seen step before found after = (after ≡ before) × Tells (desk_in before.0) step.word found

-- if the bucket is fat and not lent, no loan of it is left
abbrev pub Looked : StepOf → SeatState → ℕ → SeatState → Type 0
Looked step before found after =
    (found ≡ 1 → after ≡ (Desk (without_lent (desk_in before.0) step.word) ∷ [], [])) × (found ≢ 1 → after ≡ before) × Tells (desk_in before.0) step.word found

-- the bucket is fat if its word was found free
abbrev pub Fattened : StepOf → SeatState → ℕ → SeatState → Type 0
Fattened step before found after =
    (found ≡ 0 → after ≡ (Desk (with_fat (desk_in before.0) step.word) ∷ [], [])) × (found ≢ 0 → after ≡ before)

-- the bucket is fat if its word was found thin, of the record that it was thought to be of, and the record's text is in hand
abbrev pub Borrowed : StepOf → SeatState → ℕ → SeatState → Type 0
Borrowed step before found after =
    let d = desk_in before.0 in
    (found ≡ step.first → (i : ℕ) → step.first ≡ thin i → (name : List ℕ) × (after ≡ (Desk (with_reading d step.word i name) ∷ [], (i, name) ∷ [])))
    × (found ≢ step.first → after ≡ before)

-- the text in hand goes home, and the bucket is lent
abbrev pub HasRead : StepOf → SeatState → ℕ → SeatState → Type 0
HasRead step before found after = after ≡ (Desk (done_reading (desk_in before.0)) ∷ [], [])

-- the bucket is thin again if its word was found lent; else its record has let it go
abbrev pub Thinned : StepOf → SeatState → ℕ → SeatState → Type 0
Thinned step before found after =
    (found ≡ 3 → after ≡ (Desk (thinned (desk_in before.0) step.word) ∷ [], [])) × (found ≢ 3 → after ≡ (Desk (without_lent (desk_in before.0) step.word) ∷ [], []))

abbrev pub Freed : StepOf → SeatState → ℕ → SeatState → Type 0
Freed step before found after = after ≡ (Desk (without_fat (desk_in before.0) step.word) ∷ [], [])

-- ---- two parts

-- a bucket that a record has taken and that is fat is lent to this record, for its name
abbrev pub Met : StepOf → SeatState → ℕ → SeatState → Type 0
Met step before found after =
    let r = record_in before.0 in
    let d = desk_in before.0 in
    (after ≡ before) × ((b : ℕ) → Among b r.taken → Among b d.fat → Among (loan b r.number r.name) d.lent)

-- no bucket is taken by two records
abbrev pub RecordsMet : StepOf → SeatState → ℕ → SeatState → Type 0
RecordsMet step before found after =
    (after ≡ before) × ((b : ℕ) → Among b (record_in before.0).taken → Among b (record_in (others_of before.0)).taken → ⊥)
