-- The first word of a line, and what is left.
use Rattle.std.proofs.Common.{◌≡◌, ◌∙◌, ap, refl, sym, ℕ, suc, ◌+◌, ◌<◌, true, false, not, List, [], ◌∷◌, length, length-take, drop, filter, nat_eq, arith}
use Rattle.std.specs.List.{slice_split, onto_first, position_or_len, before_first, after_first}
use Rattle.std.proofs.lemmas.Grind.{common_steps}
use Rattle.std.proofs.lemmas.List.Sums.{prefix_len-le-length, passes_at_first, prefix_len-drop_yes}
use Rattle.mm_lines.specs.Cut.{is, is_not}
use Rattle.mm_lines.specs.Words.{words_of, is_word}

one-more : (n : ℕ) → 1 + n ≡ suc n
one-more n = omega arith

suc-one : (n : ℕ) → suc n + 1 ≡ suc (n + 1)
suc-one n = omega arith

-- spaces in front change no word
pub words-skip : (xs : List ℕ) → words_of (drop (position_or_len (is_not 0x20) xs) xs) ≡ words_of xs
words-skip [] = refl
words-skip (x ∷ xs) = elim (nat_eq x 0x20) as (λ b. nat_eq x 0x20 ≡ b → words_of (drop (position_or_len (is_not 0x20) (x ∷ xs)) (x ∷ xs)) ≡ words_of (x ∷ xs)) [
  | true ↦ λ e. simp (e, one-more) (words-skip xs)
  | false ↦ λ e. simp e
] refl

-- the first piece, and those after it
record FrontWord (xs : List ℕ) : Type 0 where
  pub parts : List (List ℕ)
  pub split : slice_split (is 0x20) xs ≡ before_first (is 0x20) xs ∷ parts
  pub words : filter is_word parts ≡ words_of (after_first (is 0x20) xs)

front_word : (xs : List ℕ) → FrontWord xs
front_word [] = record { parts = []; split = refl; words = refl }
front_word (x ∷ xs) = elim (nat_eq x 0x20) as (λ b. nat_eq x 0x20 ≡ b → FrontWord (x ∷ xs)) [
  | true ↦ λ e. record { parts = slice_split (is 0x20) xs; split = simp e; words = simp e }
  | false ↦ λ e. let rest = front_word xs in record {
    parts = rest.parts;
    split = simp (e, one-more) (ap (onto_first x) rest.split);
    words = simp (e, one-more, suc-one) rest.words;
  }
] refl

filter-word : (w : List ℕ) (ws : List (List ℕ)) → 0 < length w → filter is_word (w ∷ ws) ≡ w ∷ filter is_word ws
filter-word [] ws h = absurd (omega arith)
filter-word (b ∷ bs) ws h = grind (arith, common_steps)

-- past the spaces in front, the first word ends at the first space
pub words-front : (xs : List ℕ) → position_or_len (is_not 0x20) xs < length xs → let rest = drop (position_or_len (is_not 0x20) xs) xs in
    words_of xs ≡ before_first (is 0x20) rest ∷ words_of (after_first (is 0x20) rest)
words-front xs some =
    let rest = drop (position_or_len (is_not 0x20) xs) xs in
    let first = front_word rest in
    let begins = prefix_len-drop_yes (λ b. not (is 0x20 b)) xs (position_or_len (is_not 0x20) xs) 0 some (passes_at_first (is_not 0x20) xs 0 some) in
    let long : 0 < length (before_first (is 0x20) rest) = omega (arith, begins, length-take (position_or_len (is 0x20) rest) rest, prefix_len-le-length (λ b. not (is 0x20 b)) rest) in
    sym (words-skip xs) ∙ (ap (filter is_word) first.split ∙ (filter-word (before_first (is 0x20) rest) first.parts long ∙ ap (λ ws. before_first (is 0x20) rest ∷ ws) first.words))
