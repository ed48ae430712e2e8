-- Lines are cut at newlines, whatever follows.
use Rattle.std.proofs.Common.{◌≡◌, ◌∙◌, sym, ap, refl, subst, length-append, ℕ, ◌+◌, ◌<◌, ◌≤◌, Bool, true, false, not, List, [], ◌∷◌, ◌++◌, length, get_or, nat_eq, arith, append-nil, append_assoc}
use Rattle.std.specs.List.{position_or_len, before_first, after_first}
use Rattle.std.proofs.lemmas.Grind.{common_steps}
use Rattle.std.proofs.lemmas.List.Splits.{slice_split_at}
use Rattle.std.proofs.lemmas.List.Sums.{split_at_first, fails_before_first, passes_at_first, prefix_len-le-length}
use Rattle.mm_lines.specs.Cut.{is}
use Rattle.mm_lines.specs.Lines.{parts_of, lines_of_parts, whole_parts, cut, IsOpen}
use Rattle.mm_lines.specs.Text.{AreAlike, Text}
use Rattle.mm_lines.proofs.Lemmas.Text.{text_long}

-- there is at least one part
pub record HasFirstPart (bytes : List ℕ) : Type 0 where
  pub first : List ℕ
  pub others : List (List ℕ)
  pub are : parts_of bytes ≡ first ∷ others

pub first_part : (bytes : List ℕ) → HasFirstPart bytes
first_part [] = record { first = []; others = []; are = refl }
first_part (b ∷ bytes) = elim (nat_eq b 0x0a) as (λ t. nat_eq b 0x0a ≡ t → HasFirstPart (b ∷ bytes)) [
  | true ↦ λ e. record { first = []; others = parts_of bytes; are = simp e }
  | false ↦ λ e. let rest = first_part bytes in record { first = b ∷ rest.first; others = rest.others; are = simp (e, rest.are) }
] refl

lines-cons : (line first : List ℕ) (others : List (List ℕ)) → lines_of_parts (line ∷ first ∷ others) ≡ line ∷ lines_of_parts (first ∷ others)
lines-cons [] first others = refl
lines-cons (b ∷ bs) first others = refl

-- a line that ends with a newline is the first one
cut-at : (all : Bool) (line more : List ℕ) → parts_of (line ++ 0x0a ∷ more) ≡ line ∷ parts_of more → cut all (line ++ 0x0a ∷ more) ≡ line ∷ cut all more
cut-at true line more e = let rest = first_part more in ap lines_of_parts (e ∙ ap (λ ps. line ∷ ps) rest.are) ∙ (lines-cons line rest.first rest.others ∙ ap (λ ps. line ∷ lines_of_parts ps) (sym rest.are))
cut-at false line more e = let rest = first_part more in ap whole_parts (e ∙ ap (λ ps. line ∷ ps) rest.are) ∙ ap (λ ps. line ∷ whole_parts ps) (sym rest.are)

nat_eq-is : (a b : ℕ) → is b a ≡ true → a ≡ b
nat_eq-is a b h = grind (arith, common_steps)

fails_in_front : (p : ℕ → Bool) (bytes : List ℕ) (k d : ℕ) → k < length (before_first p bytes) → p (get_or (before_first p bytes) k d) ≡ false
fails_in_front p bytes k d h =
    let fits : position_or_len p bytes ≤ length bytes = prefix_len-le-length (λ b. not (p b)) bytes in
    let short : k < position_or_len p bytes = grind (arith, common_steps) in
    let same : get_or (before_first p bytes) k d ≡ get_or bytes k d = grind (arith, common_steps) in
    ap p same ∙ fails_before_first p bytes k d short

-- bytes without a newline have none in front, and none behind
pub open_tail : (b : ℕ) (bytes : List ℕ) → IsOpen (b ∷ bytes) → (nat_eq b 0x0a ≡ false) × IsOpen bytes
open_tail b bytes h = elim (nat_eq b 0x0a) as (λ t. nat_eq b 0x0a ≡ t → (nat_eq b 0x0a ≡ false) × IsOpen bytes) [
  | true ↦ λ e. absurd (omega (arith, simp e at h))
  | false ↦ λ e. let more : 1 + position_or_len (is 0x0a) bytes ≡ length (b ∷ bytes) = simp e at h in (e, omega (arith, more))
] refl

-- the first line ends at the first newline
pub cut-line : (all : Bool) (bytes more : List ℕ) → position_or_len (is 0x0a) bytes < length bytes
    → cut all (bytes ++ more) ≡ before_first (is 0x0a) bytes ∷ cut all (after_first (is 0x0a) bytes ++ more)
cut-line all bytes more h =
    let p = is 0x0a in
    let line = before_first p bytes in
    let rest = after_first p bytes in
    let newline : get_or bytes (position_or_len p bytes) 0 ≡ 0x0a = nat_eq-is _ _ (passes_at_first p bytes 0 h) in
    let split : bytes ++ more ≡ line ++ 0x0a ∷ (rest ++ more) = ap (λ l. l ++ more) (split_at_first p bytes 0 h ∙ ap (λ b. line ++ b ∷ rest) newline) ∙ append_assoc line (0x0a ∷ rest) more in
    ap (cut all) split ∙ cut-at all line (rest ++ more) (slice_split_at p line 0x0a (rest ++ more) (λ k d in_line. fails_in_front p bytes k d in_line) refl)

-- bytes without a newline stand in front of the first part
pub open_front : (bytes more : List ℕ) → IsOpen bytes → (first : List ℕ) (others : List (List ℕ)) → parts_of more ≡ first ∷ others → parts_of (bytes ++ more) ≡ (bytes ++ first) ∷ others
open_front [] more h first others e = e
open_front (b ∷ bytes) more h first others e =
    let tail = open_tail b bytes h in
    let here : nat_eq b 0x0a ≡ false = tail.0 in
    simp (here, open_front bytes more tail.1 first others e)

-- bytes without a newline are one part
pub parts-open : (bytes : List ℕ) → IsOpen bytes → parts_of bytes ≡ bytes ∷ []
parts-open bytes h = ap parts_of (sym (append-nil bytes)) ∙ (open_front bytes [] h [] [] refl ∙ ap (λ l. l ∷ []) (append-nil bytes))

-- no newline is in the front of bytes without one
pub open_part : (a b : List ℕ) → IsOpen (a ++ b) → IsOpen a
open_part [] b h = refl
open_part (x ∷ a) b h =
    let tail = open_tail x (a ++ b) h in
    let here : nat_eq x 0x0a ≡ false = tail.0 in
    let rest : position_or_len (is 0x0a) a ≡ length a = open_part a b tail.1 in
    simp here (omega (arith, rest))

cut_parts : Bool → List (List ℕ) → List (List ℕ)
cut_parts true ps = lines_of_parts ps
cut_parts false ps = whole_parts ps

cut-is : (all : Bool) (bytes : List ℕ) → cut all bytes ≡ cut_parts all (parts_of bytes)
unfolding cut_parts
cut-is true bytes = refl
cut-is false bytes = refl

-- one line of more than `longest` bytes is as good as another
module _ {S : Type 0} {answers : S → List ℕ → List ℕ → ℕ → S → Type 0} {longest : ℕ} (alike : AreAlike answers longest) where
  long_part : (whole all : Bool) (s t : S) (a b : List ℕ) (ps : List (List ℕ)) (out : List ℕ) (m : ℕ) → longest < length a → longest < length b
      → Text answers whole s (cut_parts all (a ∷ ps)) out m t → Text answers whole s (cut_parts all (b ∷ ps)) out m t
  unfolding cut_parts
  long_part whole all s t [] b ps out m long_a long_b h = absurd (omega arith)
  long_part whole all s t (x ∷ a) [] ps out m long_a long_b h = absurd (omega arith)
  long_part whole true s t (x ∷ a) (y ∷ b) ps out m long_a long_b h = text_long alike whole s t (x ∷ a) (y ∷ b) (lines_of_parts ps) out m long_a long_b h
  long_part whole false s t (x ∷ a) (y ∷ b) [] out m long_a long_b h = h
  long_part whole false s t (x ∷ a) (y ∷ b) (p ∷ ps) out m long_a long_b h = text_long alike whole s t (x ∷ a) (y ∷ b) (whole_parts (p ∷ ps)) out m long_a long_b h

  -- an open line that is too long may lose bytes
  pub long_text : (whole all : Bool) (s t : S) (a b more out : List ℕ) (m : ℕ) → IsOpen (a ++ b) → longest < length a
      → Text answers whole s (cut all (a ++ more)) out m t → Text answers whole s (cut all ((a ++ b) ++ more)) out m t
  long_text whole all s t a b more out m h long is =
      let rest = first_part more in
      let short_cut : cut all (a ++ more) ≡ cut_parts all ((a ++ rest.first) ∷ rest.others) = cut-is all (a ++ more) ∙ ap (cut_parts all) (open_front a more (open_part a b h) rest.first rest.others rest.are) in
      let long_cut : cut all ((a ++ b) ++ more) ≡ cut_parts all (((a ++ b) ++ rest.first) ∷ rest.others) = cut-is all ((a ++ b) ++ more) ∙ ap (cut_parts all) (open_front (a ++ b) more h rest.first rest.others rest.are) in
      let P : List (List ℕ) → Type 0 = λ ls. Text answers whole s ls out m t in
      subst P (sym long_cut)
      (long_part whole all s t (a ++ rest.first) ((a ++ b) ++ rest.first) rest.others out m (omega (arith, length-append a rest.first)) (omega (arith, length-append a b, length-append (a ++ b) rest.first))
      (subst P short_cut is))
