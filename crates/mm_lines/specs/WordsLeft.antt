-- What contracts see of the words of a line as they are taken.
use Rattle.std.specs.Prelude.{◌≡◌, ℕ, List, [], ◌∷◌, Option, None, drop}
use Rattle.mm_lines.specs.declared.words.Words.{Words}
use Rattle.mm_lines.specs.Words.{words_of}

-- the words that are left
abbrev pub words_left : Words → List (List ℕ)
words_left words = words_of words.rest.now

-- what the first word spells, if there is one
abbrev pub first_spells : {A : Type 0} → (List ℕ → Option A) → List (List ℕ) → Option A
first_spells spelled [] = None
first_spells spelled (word ∷ words) = spelled word

-- the first word is taken, and the result is what it spells
abbrev pub TakesFirst : {A : Type 0} → (List ℕ → Option A) → Words → Option A → Words → Type 0
TakesFirst spelled old result new = (result ≡ first_spells spelled (words_left old)) × (words_left new ≡ drop 1 (words_left old))
