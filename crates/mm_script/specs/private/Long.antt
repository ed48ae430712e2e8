-- Lines that are too long are malformed, each like the others.
use Rattle.std.proofs.Common.{◌≡◌, ◌∙◌, sym, refl, subst, ℕ, ◌<◌, true, List, length, nat_lt, Option}
use Rattle.std.proofs.lemmas.Bool.{lt-ltb}
use Rattle.mm_table.specs.TableState.{TableState}
use Rattle.mm_script.specs.declared.line.Line.{Line}
use Rattle.mm_script.specs.declared.line.Line.TheVariants as kind
use Rattle.mm_script.specs.Line.{line_of}
use Rattle.mm_script.specs.Text.{Answers, AnswersLine}

line_of-long : (line : List ℕ) → 128 < length line → line_of line ≡ kind.Malformed
line_of-long line h = let over : nat_lt 128 (length line) ≡ true = lt-ltb 128 (length line) h in rw over refl

pub answers_long : (old new : Option TableState) (a b reply : List ℕ) (one : ℕ) → 128 < length a → 128 < length b → Answers old a reply one new → Answers old b reply one new
answers_long old new a b reply one long_a long_b answer =
    let same : line_of a ≡ line_of b = line_of-long a long_a ∙ sym (line_of-long b long_b) in
    let P : Line → Type 0 = λ l. AnswersLine l old reply one new in
    subst P same answer
