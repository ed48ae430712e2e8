-- Numbers that are too great.
use Rattle.std.proofs.Common.{◌≡◌, ◌∙◌, ap, refl, ℕ, suc, ◌+◌, ◌*◌, ◌<◌, ◌≤◌, Bool, true, false, List, [], ◌∷◌, Some, None, ◌&&◌, cond, nat_le, length, drop, get_or, arith}
use Rattle.std.proofs.Math.Seq.{drop-cons}
use Rattle.std.proofs.lemmas.Grind.{common_steps}
use Rattle.std.specs.Char.{digit_value}
use Rattle.std.specs.Str.Parse.{digits_value, digits_value_after}
use Rattle.std.specs.Str.{all_ascii_digits}
use Rattle.mm_lines.specs.Words.{is_number, number_at_most}

-- more digits make no number less
pub digits_value_after-ge : (n : ℕ) (ds : List ℕ) → n ≤ digits_value_after 10 n ds
digits_value_after-ge n [] = omega arith
digits_value_after-ge n (d ∷ ds) = omega (arith, digits_value_after-ge (n * 10 + digit_value d) ds)

refused : {A : Type 0} (a b : Bool) (x : A) → b ≡ false → cond (a && b) (Some x) None ≡ None
refused true b x e = rw e refl
refused false b x e = refl

pub number_at_most-none : (most : ℕ) (word : List ℕ) → most < digits_value 10 word → number_at_most most word ≡ None
number_at_most-none most word h =
    let over : nat_le (digits_value 10 word) most ≡ false = grind (arith, common_steps) in
    refused (is_number word) (nat_le (digits_value 10 word) most) (digits_value 10 word) over

pub number_at_most-some : (most n : ℕ) (word : List ℕ) → all_ascii_digits word ≡ true → 0 < length word → length word ≤ 20 → n ≡ digits_value 10 word → n ≤ most
    → Some n ≡ number_at_most most word
number_at_most-some most n word digits some short is h =
    let a : nat_le 1 (length word) ≡ true = grind (arith, common_steps) in
    let b : nat_le (length word) 20 ≡ true = grind (arith, common_steps) in
    let d : nat_le n most ≡ true = grind (arith, common_steps) in
    rw (← is) (simp (digits, a, b, d))

-- a number that is too great with its next digit is too great
pub number_at_most-over : (word : List ℕ) (i n most : ℕ) → i < length word → digits_value 10 word ≡ digits_value_after 10 n (drop i word)
    → most < n * 10 + digit_value (get_or word i 0) → number_at_most most word ≡ None
number_at_most-over word i n most h is over =
    let next : drop i word ≡ get_or word i 0 ∷ drop (suc i) word = drop-cons word i 0 h in
    let least = digits_value_after-ge (n * 10 + digit_value (get_or word i 0)) (drop (suc i) word) in
    let whole : digits_value 10 word ≡ digits_value_after 10 (n * 10 + digit_value (get_or word i 0)) (drop (suc i) word) = is ∙ ap (digits_value_after 10 n) next in
    number_at_most-none most word (omega arith)
