-- Text that is not yet written.
use Rattle.std.specs.Prelude.{◌≡◌, ◌⊎◌, ℕ, List, ◌++◌, IsTrue}
use Rattle.mm_explain.specs.declared.sheet.Sheet.{Sheet}

-- the text stands behind what was there, or memory for it was refused and the sheet says so
abbrev pub Adds : Sheet → List ℕ → Sheet → Type 0
Adds old text new = IsTrue new.is_short ⊎ (new.bytes.items ≡ old.bytes.items ++ text)
