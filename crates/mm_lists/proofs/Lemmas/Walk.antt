-- A walk through a list, by numbers of its elements of which none stands twice.
use Rattle.std.proofs.Common.{◌≡◌, ◌≢◌, ℕ, List, [], ◌∷◌, ◌++◌, map, Option, Some, None, nat_eq, if◌then◌else◌, refl, sym, subst, inl}
use Rattle.std.proofs.lemmas.Bool.{eq-eqb, ne_eqb}
use Rattle.mm_lists.specs.Members.{Among, NoRepeat}
use Rattle.mm_lists.specs.Walk.{first_number, rest_from}
use Rattle.mm_lists.proofs.Lemmas.Among.{among_map, among_right}

module _ {X : Type 0} (number : X → ℕ) where
  rest_from-first : (xs : List X) → rest_from number xs (first_number number xs) ≡ xs
  rest_from-first [] = refl
  rest_from-first (x ∷ xs) = rw (eq-eqb (number x) (number x) refl) refl

  -- from the first number of a part on, the list is that part
  pub rest_from-part : (earlier rest : List X) → NoRepeat (map number (earlier ++ rest)) → rest_from number (earlier ++ rest) (first_number number rest) ≡ rest
  rest_from-part [] rest once = rest_from-first rest
  rest_from-part (y ∷ earlier) [] once = refl
  rest_from-part (y ∷ earlier) (x ∷ rest) once =
      let apart : number y ≢ number x = λ same. once.0 (subst (λ n. Among n (map number (earlier ++ x ∷ rest))) (sym same)
      (among_map number (earlier ++ x ∷ rest) x (among_right earlier (x ∷ rest) x (inl refl)))) in
      rw (ne_eqb (number y) (number x) apart) (rest_from-part earlier (x ∷ rest) once.1)
