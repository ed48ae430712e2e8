-- The first member that is found.
use Rattle.std.proofs.Common.{◌≡◌, Bool, true, false, List, [], ◌∷◌, find, filter, Some, None, inl, inr, refl, ap, ◌∙◌}
use Rattle.std.proofs.lemmas.Bool.{cases_Bool}
use Rattle.mm_lists.specs.Members.{Among}

pub found_among : {X : Type 0} (p : X → Bool) (xs : List X) (x : X) → find p xs ≡ Some x → Among x xs × (p x ≡ true)
found_among p [] x found = (let never : None ≡ Some x = found in cc)
found_among p (y ∷ ys) x found = elim (cases_Bool (p y)) [
  | inl yes_y ↦
      let here : Some y ≡ Some x = rw yes_y at found in
      let e : x ≡ y = cc in
      (inl e, ap p e ∙ yes_y)
  | inr no_y ↦ let rest : Among x ys × (p x ≡ true) = found_among p ys x (rw no_y at found) in (inr rest.0, rest.1)
]

pub none_found : {X : Type 0} (p : X → Bool) (xs : List X) → ((x : X) → Among x xs → p x ≡ false) → find p xs ≡ None
none_found p [] none = refl
none_found p (y ∷ ys) none = rw (none y (inl refl)) (none_found p ys (λ x later. none x (inr later)))

pub not_found : {X : Type 0} (p : X → Bool) (xs : List X) (x : X) → find p xs ≡ None → Among x xs → p x ≡ false
not_found p [] x none found = absurd found
not_found p (y ∷ ys) x none found = elim (cases_Bool (p y)) [
  | inl yes_y ↦ (let never : Some y ≡ None = rw yes_y at none in cc)
  | inr no_y ↦ elim found [ inl e ↦ ap p e ∙ no_y | inr later ↦ not_found p ys x (rw no_y at none) later ]
]

-- a filter that keeps what is looked for changes nothing of what is found
pub find_filter : {X : Type 0} (p q : X → Bool) (xs : List X) → ((x : X) → p x ≡ true → q x ≡ true) → find p (filter q xs) ≡ find p xs
find_filter p q [] keeps = refl
find_filter p q (y ∷ ys) keeps = elim (cases_Bool (p y)) [
  | inl yes_y ↦ rw (keeps y yes_y, yes_y) refl
  | inr no_y ↦ elim (cases_Bool (q y)) [
    | inl kept ↦ rw (kept, no_y) (find_filter p q ys keeps)
    | inr left ↦ rw (left, no_y) (find_filter p q ys keeps)
  ]
]
