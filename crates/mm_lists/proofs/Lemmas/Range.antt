-- Ranges of numbers: what is in one, each once.
use Rattle.std.proofs.lemmas.List.FromFn.{length-range_with_len}
use Rattle.std.proofs.lemmas.List.Sums.{length-filter, count_by-le-length}
use Rattle.std.proofs.Common.{ℕ, zero, suc, ◌+◌, ◌<◌, ◌≤◌, Bool, filter, nat_eq, inl, inr, arith, length}
use Rattle.std.specs.List.{range_with_len}
use Rattle.std.proofs.lemmas.Bool.{cases_Bool, eq-eqb, eqb-true}
use Rattle.std.proofs.lemmas.List.{map-id}
use Rattle.mm_lists.specs.Members.{Among, NoRepeat}
use Rattle.mm_lists.proofs.Lemmas.NoRepeat.{no_repeat_filter}

pub among_range_gives : (a n x : ℕ) → Among x (range_with_len a n) → (a ≤ x) × (x < a + n)
among_range_gives a zero x found = absurd found
among_range_gives a (suc n) x (inl e) = omega arith
among_range_gives a (suc n) x (inr later) = omega (arith, among_range_gives (a + 1) n x later)

pub among_range : (a n x : ℕ) → a ≤ x → x < a + n → Among x (range_with_len a n)
among_range a zero x low high = absurd (omega arith)
among_range a (suc n) x low high = elim (cases_Bool (nat_eq x a)) [
  | inl e ↦ inl (eqb-true x a e)
  | inr other ↦ inr (among_range (a + 1) n x (grind (arith, eq-eqb x a)) (omega arith))
]

pub no_repeat_range : (a n : ℕ) → NoRepeat (range_with_len a n)
no_repeat_range a zero = tt
no_repeat_range a (suc n) = (λ again. absurd (omega (arith, (among_range_gives (a + 1) n a again).0)), no_repeat_range (a + 1) n)

-- those of a range that pass a test, each once
pub no_repeat_filter_range : (p : ℕ → Bool) (a n : ℕ) → NoRepeat (filter p (range_with_len a n))
no_repeat_filter_range p a n = rw map-id at (no_repeat_filter (λ (x : ℕ). x) p (range_with_len a n) (rw map-id (no_repeat_range a n)))

pub length_filter_range : (p : ℕ → Bool) (n : ℕ) → length (filter p (range_with_len 0 n)) ≤ n
length_filter_range p n = omega (arith, length-filter p (range_with_len 0 n), count_by-le-length p (range_with_len 0 n), length-range_with_len 0 n)
