-- A line has few words.
use Rattle.std.proofs.Common.{◌≤◌, ◌+◌, ℕ, Bool, List, [], ◌∷◌, length, filter, inl, inr, arith}
use Rattle.std.proofs.lemmas.Bool.{cases_Bool}
use Rattle.std.proofs.lemmas.List.Splits.{length-slice_split}
use Rattle.std.proofs.lemmas.List.Sums.{count_by-le-length}
use Rattle.std.specs.List.{slice_split}
use Rattle.mm_lines.specs.Cut.{is}
use Rattle.mm_lines.specs.Words.{is_word, words_of}

fewer_pass : {X : Type 0} (p : X → Bool) (xs : List X) → length (filter p xs) ≤ length xs
fewer_pass p [] = omega arith
fewer_pass p (x ∷ xs) = elim (cases_Bool (p x)) [
  | inl passed ↦ rw passed (omega (arith, fewer_pass p xs))
  | inr failed ↦ rw failed (omega (arith, fewer_pass p xs))
]

pub few_words : (line : List ℕ) → length (words_of line) ≤ length line + 1
few_words line = omega (arith, fewer_pass is_word (slice_split (is 0x20) line), length-slice_split (is 0x20) line, count_by-le-length (is 0x20) line)
