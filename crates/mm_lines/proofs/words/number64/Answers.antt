use Rattle.std.proofs.Common.{◌≡◌, ◌∙◌, sym, ap, true, [], drop, arith}
use Rattle.std.proofs.lemmas.Grind.{common_steps}
use Rattle.std.specs.Str.{all_ascii_digits}
use Rattle.std.specs.Str.Parse.{digits_value, digits_value_after}
use Rattle.mm_lines.proofs.Lemmas.Number.{number_at_most-over, number_at_most-some}
use Rattle.mm_lines.proofs.words.number64.Goals as goal

pub returns-in_err-checked_mul : goal.returns-in_err-checked_mul
returns-in_err-checked_mul c = grind (arith, common_steps, number_at_most-over c.args.word.now c.loop-digit.digit-index c.loop-digit.number)

pub returns-in_err-number : goal.returns-in_err-number
returns-in_err-number c = grind (arith, common_steps, number_at_most-over c.args.word.now c.loop-digit.digit-index c.loop-digit.number)

pub returns : goal.returns
returns c =
    let w = c.args.word.now in
    let n = c.loop-digit.digit-index in
    let none_left : drop n w ≡ [] = grind (arith, common_steps) in
    let digits : all_ascii_digits w ≡ true = c.loop-digit.invariant.digits ∙ ap all_ascii_digits none_left in
    let is : digits_value 10 w ≡ c.loop-digit.number = c.loop-digit.invariant.number ∙ ap (digits_value_after 10 c.loop-digit.number) none_left in
    number_at_most-some _ _ w digits (grind (arith, common_steps)) (omega arith) (sym is) (omega arith)
