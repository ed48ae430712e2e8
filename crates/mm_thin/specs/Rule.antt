-- The rule of the words: what holds between any two steps, of the words, of the texts that are at home, and of what the parts know.
use Rattle.std.specs.Prelude.{◌≡◌, ◌⊎◌, ℕ, ◌+◌, ◌<◌, ◌≤◌, List, length, slice_index}
use mathlib.Core.Option.{Option, some}
use lib.ListN.{get_elem?}
use Rattle.atomic_table.specs.Table.{State}
use Rattle.mm_lists.specs.Members.{Among}
use Rattle.mm_thin.specs.declared.views.Lent.{Lent}
use Rattle.mm_thin.specs.declared.views.DeskView.{DeskView}
use Rattle.mm_thin.specs.declared.views.RecordView.{RecordView}
use Rattle.mm_thin.specs.declared.views.Part.{Part}
use Rattle.mm_thin.specs.declared.views.Part.TheVariants.{Desk, Record}
use Rattle.mm_thin.specs.Views.{loan}

-- ---- what a word says: 0 is free, 1 is fat, 2 is fat while the office reads the name, 3 is fat and lent, and 4 + i is thin, of record i

abbrev pub thin : ℕ → ℕ
thin number = number + 4

abbrev pub IsFat : ℕ → Type 0
IsFat word = (0 < word) × (word < 4)

-- a record has taken the bucket of a fat word, and has not let it go
abbrev pub IsLent : ℕ → Type 0
IsLent word = (1 < word) × (word < 4)

-- ---- what holds

-- a number for each part: there is one office, and one record of each number
abbrev pub place_of : Part → ℕ
place_of (Desk d) = 0
place_of (Record r) = r.number + 1

-- what is told of a record: the bucket that it has taken, and for which name
abbrev pub Told : Type 0
Told = List ℕ × List ℕ

-- of one bucket with this word: one record at most has taken it; its word is thin, of that record, or lent to it, for its name; a thin word's record has
-- taken it; the office has the bucket exactly if the word is fat; and what the office has lent is fat, and, if the word says so, is that record's; a word that says so is
-- of a bucket that the office has lent
pub record Fits (word : ℕ) (d : DeskView) (told_of : ℕ → Told) (b : ℕ) : Type 0 where
  pub one : (i j : ℕ) → Among b (told_of i).0 → Among b (told_of j).0 → i ≡ j
  pub taken : (i : ℕ) → Among b (told_of i).0 → (word ≡ thin i) ⊎ (IsLent word × Among (loan b i (told_of i).1) d.lent)
  pub thin_of : (i : ℕ) → word ≡ thin i → Among b (told_of i).0
  pub is_fat : Among b d.fat → IsFat word
  pub fat : IsFat word → Among b d.fat
  pub lent : (l : Lent) → Among l d.lent → l.bucket ≡ b → Among b d.fat × (IsLent word → Among b (told_of l.number).0 × (l.name ≡ (told_of l.number).1))
  pub held : IsLent word → (l : Lent) × Among l d.lent × (l.bucket ≡ b)

-- the office reads the name of a record
abbrev pub IsRead : DeskView → ℕ → Type 0
IsRead d i = (l : Lent) × Among l d.reading × (l.number ≡ i)

-- each bucket fits, and there are no others; a record has taken one at most; the word of the bucket that is read says so, and no other does; the text of a record that is not
-- made yet is at home; and so is, with its name, that of a record that has taken a bucket, unless it is read
pub record IsLawful (words : List ℕ) (homes : List (Option (List ℕ))) (d : DeskView) (told_of : ℕ → Told) : Type 0 where
  pub each : (b : ℕ) → b < length words → Fits (slice_index words b) d told_of b
  pub low : (b i : ℕ) → Among b (told_of i).0 → (b < length words) × (i < d.records) × (i < length homes)
  pub low_fat : (b : ℕ) → Among b d.fat → b < length words
  pub low_lent : (l : Lent) → Among l d.lent → l.bucket < length words
  pub single : (b c i : ℕ) → Among b (told_of i).0 → Among c (told_of i).0 → b ≡ c
  pub reads : (l : Lent) → Among l d.reading → (slice_index words l.bucket ≡ 2) × Among l.bucket (told_of l.number).0 × (l.name ≡ (told_of l.number).1)
  pub read_at : (b : ℕ) → b < length words → slice_index words b ≡ 2 → (l : Lent) × Among l d.reading × (l.bucket ≡ b)
  pub fresh : (i : ℕ) → i < length homes → d.records ≤ i → (name : List ℕ) × (get_elem? homes i ≡ some (some name))
  pub home : (b i : ℕ) → Among b (told_of i).0 → (get_elem? homes i ≡ some (some (told_of i).1)) ⊎ IsRead d i

-- what a record knows
pub record KnowsRecord (d : DeskView) (told_of : ℕ → Told) (r : RecordView) : Type 0 where
  pub low : r.number < d.records
  pub told : (r.taken, r.name) ≡ told_of r.number

-- what a part knows
abbrev pub Knows : DeskView → (ℕ → Told) → Part → Type 0
Knows d told_of (Desk e) = e ≡ d
Knows d told_of (Record r) = KnowsRecord d told_of r

-- each part of a seat is that seat's, and knows what it may
abbrev pub AllKnow : List (List Part) → DeskView → (ℕ → Told) → (ℕ → ℕ) → Type 0
AllKnow views d told_of seat_of =
    (seat : ℕ) (view : List Part) (part : Part) → get_elem? views seat ≡ some view → Among part view → (seat ≡ seat_of (place_of part)) × Knows d told_of part

-- the words, the texts at home and the views as plain data
abbrev pub WordsState : Type 0
WordsState = State (List ℕ) (List Part)

-- the rule of this many words: there is what the office knows, what each record has taken and for which name, and by place which seat has the part
pub record IsKept (count : ℕ) (s : WordsState) : Type 0 where
  pub sized : length s.words ≡ count
  pub desk : DeskView
  pub told_of : ℕ → Told
  pub seat_of : ℕ → ℕ
  pub lawful : IsLawful s.words s.homes desk told_of
  pub parts : AllKnow s.views desk told_of seat_of
