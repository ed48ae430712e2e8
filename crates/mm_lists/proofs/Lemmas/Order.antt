-- A list in order of a number: a filter passes through the order, and what has the greatest number comes last.
use Rattle.std.proofs.Common.{◌≡◌, ◌≤◌, ℕ, suc, ◌<◌, Bool, true, false, List, [], ◌∷◌, ◌++◌, length, filter, nat_lt, refl, sym, ap, ◌∙◌, inl, inr, arith}
use Rattle.std.proofs.lemmas.Bool.{cases_Bool, ltb-true, ltb-false, lt-ltb, le-ltb}
use Rattle.std.specs.List.{AllByRecursion}
use Rattle.mm_lists.specs.Order.{placed, in_order}
use Rattle.mm_lists.proofs.Lemmas.Among.{all_map}
use Rattle.mm_lists.proofs.Lemmas.Filter.{filter_all}

module _ {X : Type 0} (number : X → ℕ) where
  -- each has no greater number than those after it
  abbrev Rising : List X → Type 0
  Rising [] = Unit {0}
  Rising (x ∷ xs) = AllByRecursion (λ y. number x ≤ number y) xs × Rising xs

  all_placed : (P : X → Type 0) (x : X) (ys : List X) → P x → AllByRecursion P ys → AllByRecursion P (placed number x ys)
  all_placed P x [] here all = (here, tt)
  all_placed P x (y ∷ ys) here all = elim (cases_Bool (nat_lt (number x) (number y))) [
    | inl before ↦ rw before (here, all)
    | inr behind ↦ rw behind (all.0, all_placed P x ys here all.1)
  ]

  pub all_in_order : (P : X → Type 0) (xs : List X) → AllByRecursion P xs → AllByRecursion P (in_order number xs)
  all_in_order P [] all = tt
  all_in_order P (x ∷ xs) all = all_placed P x (in_order number xs) all.0 (all_in_order P xs all.1)

  rising_placed : (x : X) (ys : List X) → Rising ys → Rising (placed number x ys)
  rising_placed x [] up = (tt, tt)
  rising_placed x (y ∷ ys) up = elim (cases_Bool (nat_lt (number x) (number y))) [
    | inl before ↦
        let first = ltb-true (number x) (number y) before in
        rw before ((omega arith, all_map (λ z. number y ≤ number z) (λ z. number x ≤ number z) (λ z h. omega arith) ys up.0), up)
    | inr behind ↦
        let first = ltb-false (number x) (number y) behind in
        rw behind (all_placed (λ z. number y ≤ number z) x ys first up.0, rising_placed x ys up.1)
  ]

  rising : (xs : List X) → Rising (in_order number xs)
  rising [] = tt
  rising (x ∷ xs) = rising_placed x (in_order number xs) (rising xs)

  -- before all with a greater number
  placed_first : (x : X) (ys : List X) → AllByRecursion (λ y. number x < number y) ys → placed number x ys ≡ x ∷ ys
  placed_first x [] all = refl
  placed_first x (y ∷ ys) all = rw (lt-ltb (number x) (number y) all.0) refl

  module _ (p : X → Bool) where
    filter_without : (x : X) (ys : List X) → p x ≡ false → filter p (placed number x ys) ≡ filter p ys
    filter_without x [] out = rw out refl
    filter_without x (y ∷ ys) out = elim (cases_Bool (nat_lt (number x) (number y))) [
      | inl before ↦ rw (before, out) refl
      | inr behind ↦ elim (cases_Bool (p y)) [
        | inl yes_y ↦ rw (behind, yes_y) (ap (λ zs. y ∷ zs) (filter_without x ys out))
        | inr no_y ↦ rw (behind, no_y) (filter_without x ys out)
      ]
    ]

    filter_with : (x : X) (ys : List X) → p x ≡ true → Rising ys → filter p (placed number x ys) ≡ placed number x (filter p ys)
    filter_with x [] kept up = rw kept refl
    filter_with x (y ∷ ys) kept up = elim (cases_Bool (nat_lt (number x) (number y))) [
      | inl before ↦
          let first = ltb-true (number x) (number y) before in
          let later = filter_all (λ z. number x < number z) p (y ∷ ys) (omega arith, all_map (λ z. number y ≤ number z) (λ z. number x < number z) (λ z h. omega arith) ys up.0) in
          rw (before, kept) (sym (placed_first x (filter p (y ∷ ys)) later))
      | inr behind ↦ elim (cases_Bool (p y)) [
        | inl yes_y ↦ rw (behind, yes_y, behind) (ap (λ zs. y ∷ zs) (filter_with x ys kept up.1))
        | inr no_y ↦ rw (behind, no_y) (filter_with x ys kept up.1)
      ]
    ]

    -- a filter passes through the order
    pub filter_in_order : (xs : List X) → filter p (in_order number xs) ≡ in_order number (filter p xs)
    filter_in_order [] = refl
    filter_in_order (x ∷ xs) = elim (cases_Bool (p x)) [
      | inl yes_x ↦ rw yes_x (filter_with x (in_order number xs) yes_x (rising xs) ∙ ap (placed number x) (filter_in_order xs))
      | inr no_x ↦ rw no_x (filter_without x (in_order number xs) no_x ∙ filter_in_order xs)
    ]

  placed_last : (x : X) (ys : List X) → AllByRecursion (λ y. number y < number x) ys → placed number x ys ≡ ys ++ x ∷ []
  placed_last x [] all = refl
  placed_last x (y ∷ ys) all = rw (le-ltb (number x) (number y) (omega (arith, all.0))) (ap (λ zs. y ∷ zs) (placed_last x ys all.1))

  placed_before : (x z : X) (ys : List X) → number x < number z → placed number x (ys ++ z ∷ []) ≡ placed number x ys ++ z ∷ []
  placed_before x z [] later = rw (lt-ltb (number x) (number z) later) refl
  placed_before x z (y ∷ ys) later = elim (cases_Bool (nat_lt (number x) (number y))) [
    | inl before ↦ rw before refl
    | inr behind ↦ rw behind (ap (λ zs. y ∷ zs) (placed_before x z ys later))
  ]

  -- what has a greater number than all others comes last, wherever it stood
  pub greatest_last : (xs ys : List X) (z : X) → AllByRecursion (λ y. number y < number z) (xs ++ ys) → in_order number (xs ++ z ∷ ys) ≡ in_order number (xs ++ ys) ++ z ∷ []
  greatest_last [] ys z all = placed_last z (in_order number ys) (all_in_order (λ y. number y < number z) ys all)
  greatest_last (x ∷ xs) ys z all = ap (placed number x) (greatest_last xs ys z all.1) ∙ placed_before x z (in_order number (xs ++ ys)) all.0

  length_placed : (x : X) (ys : List X) → length (placed number x ys) ≡ suc (length ys)
  length_placed x [] = refl
  length_placed x (y ∷ ys) = elim (cases_Bool (nat_lt (number x) (number y))) [
    | inl before ↦ rw before refl
    | inr behind ↦ rw behind (ap suc (length_placed x ys))
  ]

  pub length_in_order : (xs : List X) → length (in_order number xs) ≡ length xs
  length_in_order [] = refl
  length_in_order (x ∷ xs) = length_placed x (in_order number xs) ∙ ap suc (length_in_order xs)
