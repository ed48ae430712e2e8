-- How bytes are cut into lines.
use Rattle.std.specs.Prelude.{◌≡◌, ℕ, Bool, true, false, List, [], ◌∷◌, length}
use Rattle.std.specs.List.{slice_split, position_or_len}
use Rattle.mm_lines.specs.Cut.{is}

-- the parts between newlines
abbrev pub parts_of : List ℕ → List (List ℕ)
parts_of bytes = slice_split (is 0x0a) bytes

-- the last part stands behind the last newline: it is a line unless it is empty
abbrev pub lines_of_parts : List (List ℕ) → List (List ℕ)
lines_of_parts [] = []
lines_of_parts ([] ∷ []) = []
lines_of_parts (part ∷ parts) = part ∷ lines_of_parts parts

abbrev pub lines_of : List ℕ → List (List ℕ)
lines_of bytes = lines_of_parts (parts_of bytes)

-- all parts but the last
abbrev pub whole_parts : List (List ℕ) → List (List ℕ)
whole_parts [] = []
whole_parts (last ∷ []) = []
whole_parts (part ∷ next ∷ parts) = part ∷ whole_parts (next ∷ parts)

-- the lines whose newline is among the bytes
abbrev pub whole_lines : List ℕ → List (List ℕ)
whole_lines bytes = whole_parts (parts_of bytes)

-- the lines of these bytes: all of them, or those whose newline is there
abbrev pub cut : Bool → List ℕ → List (List ℕ)
cut true bytes = lines_of bytes
cut false bytes = whole_lines bytes

-- no newline is among the bytes
abbrev pub IsOpen : List ℕ → Type 0
IsOpen bytes = position_or_len (is 0x0a) bytes ≡ length bytes
