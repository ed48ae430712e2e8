-- Words of holders.
use Rattle.std.proofs.Common.{◌≡◌, ◌==◌, ℕ, ◌-◌, ◌<◌, ◌≤◌, Bool, cond, Option, Some, None, IfSome, sym, arith, inl, inr, subst}
use Rattle.std.proofs.lemmas.Bool.{cases_Bool, eqb-true}
use Rattle.mm_board.specs.Views.{holder_of, IsAnother}

-- the word of another process is at most the number of processes
pub word_is_low : (processes i word : ℕ) → IfSome (holder_of word) (λ holder. IsAnother processes i holder) → word ≤ processes
word_is_low processes i word another = elim (cases_Bool (word == 0)) [
  | inl none ↦ let zero_word : word ≡ 0 = eqb-true word 0 none in omega arith
  | inr some ↦
      let process : IsAnother processes i (word - 1) = subst (λ (b : Bool). IfSome (cond b None (Some (word - 1))) (λ holder. IsAnother processes i holder)) some another in
      let low : word - 1 < processes = process.0 in
      omega arith
]

pub another_of : (processes i word count : ℕ) (holder : Option ℕ) → IfSome (holder_of word) (λ h. IsAnother processes i h) → processes ≡ count → holder ≡ holder_of word → IfSome holder (λ h. IsAnother count i h)
another_of processes i word count holder another same is = rw (is, sym same) another
