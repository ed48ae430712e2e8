-- What the parts know, and how it changes.
use Rattle.std.specs.Prelude.{ℕ, ◌+◌, ◌==◌, List, [], ◌∷◌, filter, not}
use Rattle.mm_lists.specs.Members.{without}
use Rattle.mm_thin.specs.declared.views.Lent.{Lent}
use Rattle.mm_thin.specs.declared.views.DeskView.{DeskView}
use Rattle.mm_thin.specs.declared.views.RecordView.{RecordView}

-- at first
abbrev pub no_desk : DeskView
no_desk = record { fat = []; lent = []; records = 0; reading = [] }

abbrev pub new_record : ℕ → RecordView
new_record number = record { number = number; taken = []; name = [] }

abbrev pub with_records : DeskView → ℕ → DeskView
with_records d n = record d { records = n }

-- one record more
abbrev pub more_records : DeskView → DeskView
more_records d = with_records d (d.records + 1)

-- ---- a record

-- it has taken this bucket, for this name
abbrev pub with_taken : RecordView → ℕ → List ℕ → RecordView
with_taken r bucket name = record r { taken = bucket ∷ []; name = name }

-- it has taken none
abbrev pub idle : RecordView → RecordView
idle r = record r { taken = [] }

-- ---- the office

abbrev pub loan : ℕ → ℕ → List ℕ → Lent
loan bucket number name = record { bucket = bucket; number = number; name = name }

-- a bucket that was free is fat
abbrev pub with_fat : DeskView → ℕ → DeskView
with_fat d bucket = record d { fat = bucket ∷ d.fat }

-- a bucket that a record has taken is fat, and the office reads its name
abbrev pub with_reading : DeskView → ℕ → ℕ → List ℕ → DeskView
with_reading d bucket number name = record d { fat = bucket ∷ d.fat; lent = loan bucket number name ∷ d.lent; reading = loan bucket number name ∷ [] }

abbrev pub done_reading : DeskView → DeskView
done_reading d = record d { reading = [] }

-- the same, when it has read
abbrev pub with_lent : DeskView → ℕ → ℕ → List ℕ → DeskView
with_lent d bucket number name = record d { fat = bucket ∷ d.fat; lent = loan bucket number name ∷ d.lent }

abbrev pub without_fat : DeskView → ℕ → DeskView
without_fat d bucket = record d { fat = without bucket d.fat }

abbrev pub without_lent : DeskView → ℕ → DeskView
without_lent d bucket = record d { lent = filter (λ l. not (l.bucket == bucket)) d.lent }

-- a bucket that was lent is thin again
abbrev pub thinned : DeskView → ℕ → DeskView
thinned d bucket = record d { fat = without bucket d.fat; lent = filter (λ l. not (l.bucket == bucket)) d.lent }
