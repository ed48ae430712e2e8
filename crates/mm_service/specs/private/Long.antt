-- Lines that are too long are malformed, each like the others.
use Rattle.std.proofs.Common.{◌≡◌, ◌∙◌, sym, refl, subst, ℕ, ◌<◌, true, false, List, length, length-take, take, cond, ◌-◌, nat_lt, arith}
use Rattle.std.proofs.lemmas.Bool.{lt-ltb}
use Rattle.std.specs.Prelude.{slice_index, ◌==◌}
use Rattle.std.specs.Str.Lines.{strip_carriage_return}
use Rattle.mm_manager.specs.LockState.{LockState}
use Rattle.mm_service.specs.declared.line.Line.TheVariants as kind
use Rattle.mm_service.specs.Line.{line_of, nameless, NamedLine}
use Rattle.mm_service.specs.Text.{Answers, AnswersLine}

stripped_long : (line : List ℕ) → 1049 < length line → 1048 < length (strip_carriage_return line)
stripped_long line h = elim (slice_index line (length line - 1) == 13) as (λ b. 1048 < length (cond b (take (length line - 1) line) line)) [
  | true ↦ omega (arith, length-take (length line - 1) line)
  | false ↦ omega arith
]

line_of-long : (line : List ℕ) → 1049 < length line → line_of line ≡ nameless kind.Malformed
line_of-long line h =
    let over : nat_lt 1048 (length (strip_carriage_return line)) ≡ true = lt-ltb 1048 (length (strip_carriage_return line)) (stripped_long line h) in
    rw over refl

pub answers_long : (m n : LockState) (a b out : List ℕ) (one : ℕ) → 1049 < length a → 1049 < length b → Answers m a out one n → Answers m b out one n
answers_long m n a b out one long_a long_b h =
    let same : line_of a ≡ line_of b = line_of-long a long_a ∙ sym (line_of-long b long_b) in
    let P : NamedLine → Type 0 = λ l. AnswersLine l.line l.name m out one n in
    subst P same h
