-- What is in a list, by cases on the list: so a worked example computes, where the library's `Contains` asks for a place.
use Rattle.std.specs.Prelude.{ℕ, List, [], ◌∷◌, Option, Some, None, ◌≡◌, ◌==◌, ◌⊎◌, ⊤, filter, not}

-- x is one of the list
abbrev pub Among : {X : Type 0} → X → List X → Type 0
Among x [] = ⊥
Among x (y ∷ ys) = (x ≡ y) ⊎ Among x ys

-- the first of the list
abbrev pub head : {X : Type 0} → List X → Option X
head [] = None
head (x ∷ xs) = Some x

-- no place of the list has what a later one has
abbrev pub NoRepeat : {X : Type 0} → List X → Type 0
NoRepeat [] = ⊤
NoRepeat (x ∷ xs) = (Among x xs → ⊥) × NoRepeat xs

-- the list without a number
abbrev pub without : ℕ → List ℕ → List ℕ
without n ns = filter (λ m. not (m == n)) ns
