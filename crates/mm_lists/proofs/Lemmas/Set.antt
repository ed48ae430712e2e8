-- What is read of a list after one place of it is written.
use Rattle.std.proofs.Common.{◌≡◌, ◌≢◌, ℕ, zero, suc, ◌<◌, List, [], ◌∷◌, Some, length, set, get_or, slice_get, refl, sym, ap, subst, ◌∙◌, inl, inr, arith, length-set, Bool, true, false, replicate, slice_index_or, slice_set, get_or-set_same, get_or-set_other}
use Rattle.std.proofs.lemmas.Bool.{cases_eq, cases_lt}
use Rattle.std.proofs.lemmas.List.{get_or_past, set_past}
use Rattle.std.proofs.lemmas.Option.{slice_get-get_or}

-- a write at another place keeps what is read
pub slice_get-set_other : {X : Type 0} (xs : List X) (i k : ℕ) (x : X) → i ≢ k → slice_get (set xs k x) i ≡ slice_get xs i
slice_get-set_other [] i k x other = refl
slice_get-set_other (y ∷ ys) zero zero x other = absurd (other refl)
slice_get-set_other (y ∷ ys) zero (suc k) x other = refl
slice_get-set_other (y ∷ ys) (suc i) zero x other = refl
slice_get-set_other (y ∷ ys) (suc i) (suc k) x other = slice_get-set_other ys i k x (λ same. other (ap suc same))

-- what is written at a place of the list is read there
pub slice_get-set_same : {X : Type 0} (xs : List X) (i : ℕ) (x : X) → i < length xs → slice_get (set xs i x) i ≡ Some x
slice_get-set_same xs i x inside =
    slice_get-get_or (set xs i x) i x (omega (arith, length-set xs i x)) ∙ ap Some (get_or-set_same xs i x x inside)

-- a fact of what is read at m after a write at n, by cases
pub get_or-set_cases : {X : Type 0} (P : X → Type 0) (xs : List X) (n : ℕ) (x d : X) (m : ℕ) → n < length xs → (m ≡ n → P x) → (m ≢ n → P (get_or xs m d)) → P (get_or (set xs n x) m d)
get_or-set_cases P xs n x d m below here there =
    elim (cases_eq m n) [
      | inl same ↦ subst P (sym (ap (λ k. get_or (set xs n x) k d) same ∙ get_or-set_same xs n x d below)) (here same)
      | inr other ↦ subst P (sym (get_or-set_other xs n m x d other)) (there other)
    ]

-- a read that gives true is within the list
pub true_within : (xs : List Bool) (n : ℕ) → slice_index_or xs n false ≡ true → n < length xs
true_within xs n e = elim (cases_lt n (length xs)) [
  | inl inside ↦ inside
  | inr past ↦ (let never : false ≡ true = sym (get_or_past xs n false past) ∙ e in absurd (cc))
]

-- what was true is so after another element was set to true
pub true_still : (xs : List Bool) (n m : ℕ) → slice_index_or xs m false ≡ true → slice_index_or (slice_set xs n true) m false ≡ true
true_still xs n m e = elim (cases_eq m n) [
  | inl here ↦ elim (cases_lt n (length xs)) [
    | inl inside ↦ rw here (get_or-set_same xs n true false inside)
    | inr past ↦ rw (set_past xs n true past) e
  ]
  | inr other ↦ get_or-set_other xs n m true false other ∙ e
]

pub read_replicate : {X : Type 0} (x : X) (n i : ℕ) → slice_index_or (replicate n x) i x ≡ x
read_replicate x zero i = refl
read_replicate x (suc n) zero = refl
read_replicate x (suc n) (suc i) = read_replicate x n i

pub slice_get-replicate : {X : Type 0} (x : X) (n i : ℕ) → i < n → slice_get (replicate n x) i ≡ Some x
slice_get-replicate x zero i h = absurd (omega arith)
slice_get-replicate x (suc n) zero h = refl
slice_get-replicate x (suc n) (suc i) h = slice_get-replicate x n i (omega arith)
