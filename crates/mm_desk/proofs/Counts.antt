-- The counts of names, after one number gets or loses its name.
use Rattle.std.proofs.Common.{◌≡◌, ◌≢◌, ℕ, ◌+◌, ◌-◌, ◌<◌, ◌≤◌, zero, suc, cond, List, [], ◌∷◌, length, set, Option, Some, None, refl, sym, ap, ◌∙◌, inl, inr, arith, eq-eqb, ne_eqb, get_or, get_or-set_same, get_or-set_other, length-set}
use Rattle.std.proofs.lemmas.Grind.{get_or_default_zero}
use Rattle.std.specs.Prelude.{slice_index, slice_index_or}
use Rattle.std.proofs.lemmas.Bool.{cases_eq}
use Rattle.std.proofs.lemmas.List.Sums.{sum_by-set, sum_by-cons}
use Rattle.mm_thin.specs.declared.spread.Spread.{Spread}
use Rattle.mm_thin.specs.Spread.{bucket_by}
use Rattle.mm_desk.specs.Books.{in_bucket, names_in, AreCounted}

-- a name counts in its bucket alone
pub in_own : (spread : Spread) (b : ℕ) (name : List ℕ) → bucket_by spread name ≡ b → in_bucket spread b (Some name) ≡ 1
in_own spread b name same = ap (λ q. cond q 1 0) (eq-eqb (bucket_by spread name) b same)

pub in_other : (spread : Spread) (b : ℕ) (name : List ℕ) → bucket_by spread name ≢ b → in_bucket spread b (Some name) ≡ 0
in_other spread b name apart = ap (λ q. cond q 1 0) (ne_eqb (bucket_by spread name) b apart)

at_most_one : (spread : Spread) (b : ℕ) (x : Option (List ℕ)) → in_bucket spread b x ≤ 1
at_most_one spread b None = omega arith
at_most_one spread b (Some name) = elim (cases_eq (bucket_by spread name) b) [
  | inl same ↦ (let one = in_own spread b name same in omega arith)
  | inr apart ↦ (let none = in_other spread b name apart in omega arith)
]

-- no more than there are numbers
pub few : (spread : Spread) (b : ℕ) (names : List (Option (List ℕ))) → names_in spread names b ≤ length names
few spread b [] = omega arith
few spread b (x ∷ xs) =
    let one = at_most_one spread b x in
    let rest = few spread b xs in
    let sum : names_in spread (x ∷ xs) b ≡ in_bucket spread b x + names_in spread xs b = sum_by-cons (in_bucket spread b) x xs in
    let size : length (x ∷ xs) ≡ length xs + 1 = omega arith in
    omega arith

-- a name that is there is counted
pub counted_name : (spread : Spread) (names : List (Option (List ℕ))) (n : ℕ) (name : List ℕ) (b : ℕ) → slice_index_or names n None ≡ Some name → bucket_by spread name ≡ b → 0 < names_in spread names b
counted_name spread [] n name b is same = absurd (cc)
counted_name spread (x ∷ xs) zero name b is same =
    let one : in_bucket spread b x ≡ 1 = ap (in_bucket spread b) is ∙ in_own spread b name same in
    let sum : names_in spread (x ∷ xs) b ≡ in_bucket spread b x + names_in spread xs b = sum_by-cons (in_bucket spread b) x xs in
    omega arith
counted_name spread (x ∷ xs) (suc n) name b is same =
    let rest = counted_name spread xs n name b is same in
    let sum : names_in spread (x ∷ xs) b ≡ in_bucket spread b x + names_in spread xs b = sum_by-cons (in_bucket spread b) x xs in
    omega arith

-- ---- one number changes

module _ (spread : Spread) (names : List (Option (List ℕ))) (counts : List ℕ) (counted : AreCounted spread names counts) (n : ℕ) (inside : n < length names) (name : List ℕ) (b : ℕ) (bucket : b ≡ bucket_by spread name) (low : b < spread.buckets) where
  change : (y : Option (List ℕ)) (c : ℕ) → names_in spread (set names n y) c + in_bucket spread c (slice_index_or names n None) ≡ names_in spread names c + in_bucket spread c y
  change y c = sum_by-set (in_bucket spread c) names n y None inside

  other_count : (now c : ℕ) → c ≢ b → slice_index (set counts b now) c ≡ slice_index counts c
  other_count now c apart = get_or-set_other counts b c now 0 apart

  own_count : (now : ℕ) → slice_index (set counts b now) b ≡ now
  own_count now = (let size = counted.0 in get_or-set_same counts b now 0 (omega arith))

  -- it gets this name
  pub count_more : slice_index_or names n None ≡ None → AreCounted spread (set names n (Some name)) (set counts b (slice_index counts b + 1))
  count_more none = (
    (let size = counted.0 in omega (arith, length-set counts b (slice_index counts b + 1))),
    λ c below. elim (cases_eq c b) [
      | inl same ↦
          let was = counted.1 c below in
          let now = change (Some name) c in
          let before : in_bucket spread c (slice_index_or names n None) ≡ 0 = ap (in_bucket spread c) none in
          let after : in_bucket spread c (Some name) ≡ 1 = in_own spread c name (sym bucket ∙ sym same) in
          let own : slice_index (set counts b (slice_index counts b + 1)) c ≡ slice_index counts c + 1 = ap (slice_index (set counts b (slice_index counts b + 1))) same ∙ own_count (slice_index counts b + 1) ∙ ap (λ k. slice_index counts k + 1) (sym same) in
          omega arith
      | inr apart ↦
          let was = counted.1 c below in
          let now = change (Some name) c in
          let before : in_bucket spread c (slice_index_or names n None) ≡ 0 = ap (in_bucket spread c) none in
          let after : in_bucket spread c (Some name) ≡ 0 = in_other spread c name (λ is. apart (sym is ∙ sym bucket)) in
          let other = other_count (slice_index counts b + 1) c apart in
          omega arith
    ],
  )

  -- it loses this name
  pub count_less : slice_index_or names n None ≡ Some name → AreCounted spread (set names n None) (set counts b (slice_index counts b - 1))
  count_less some = (
    (let size = counted.0 in omega (arith, length-set counts b (slice_index counts b - 1))),
    λ c below. elim (cases_eq c b) [
      | inl same ↦
          let was = counted.1 c below in
          let now = change None c in
          let before : in_bucket spread c (slice_index_or names n None) ≡ 1 = ap (in_bucket spread c) some ∙ in_own spread c name (sym bucket ∙ sym same) in
          let after : in_bucket spread c None ≡ 0 = refl in
          let own : slice_index (set counts b (slice_index counts b - 1)) c ≡ slice_index counts c - 1 = ap (slice_index (set counts b (slice_index counts b - 1))) same ∙ own_count (slice_index counts b - 1) ∙ ap (λ k. slice_index counts k - 1) (sym same) in
          omega arith
      | inr apart ↦
          let was = counted.1 c below in
          let now = change None c in
          let before : in_bucket spread c (slice_index_or names n None) ≡ 0 = ap (in_bucket spread c) some ∙ in_other spread c name (λ is. apart (sym is ∙ sym bucket)) in
          let after : in_bucket spread c None ≡ 0 = refl in
          let other = other_count (slice_index counts b - 1) c apart in
          omega arith
    ],
  )

-- the count that is read to be changed
pub count_is : (counts : List ℕ) (b v : ℕ) → b < length counts → v ≡ get_or counts b v → v ≡ slice_index counts b
count_is counts b v low is = is ∙ get_or_default_zero counts b v low
