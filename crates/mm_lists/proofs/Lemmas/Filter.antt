-- What a filter leaves of a list.
use Rattle.std.proofs.Common.{◌≡◌, ◌≢◌, ◌⊎◌, ℕ, Bool, true, false, not, cond, List, [], ◌∷◌, ◌++◌, map, filter, inl, inr, refl, sym, ap, subst, ◌∙◌}
use Rattle.std.proofs.lemmas.List.Elements.{filter-append}
use Rattle.std.specs.List.{AllByRecursion}
use Rattle.std.proofs.lemmas.Bool.{cases_Bool, cases_eq, eq-eqb, ne_eqb}
use Rattle.mm_lists.specs.Members.{Among, NoRepeat, without}
use Rattle.mm_lists.proofs.Lemmas.Among.{all_at, all_from}

filter_cons : {X : Type 0} (p : X → Bool) (x y : X) (ys : List X) → Among x (cond (p y) (y ∷ filter p ys) (filter p ys))
    → ((x ≡ y) × (p y ≡ true)) ⊎ Among x (filter p ys)
filter_cons p x y ys found = elim (cases_Bool (p y)) [
  | inl yes_y ↦ elim (rw yes_y at found) [ inl e ↦ inl (e, yes_y) | inr later ↦ inr later ]
  | inr no_y ↦ inr (rw no_y at found)
]

pub filter_gives : {X : Type 0} (p : X → Bool) (xs : List X) (x : X) → Among x (filter p xs) → Among x xs × (p x ≡ true)
filter_gives p [] x found = absurd found
filter_gives p (y ∷ ys) x found = elim (filter_cons p x y ys found) [
  | inl here ↦ (inl here.0, ap p here.0 ∙ here.1)
  | inr later ↦ let rest : Among x ys × (p x ≡ true) = filter_gives p ys x later in (inr rest.0, rest.1)
]

pub filter_keeps : {X : Type 0} (p : X → Bool) (xs : List X) (x : X) → Among x xs → p x ≡ true → Among x (filter p xs)
filter_keeps p [] x found passes = absurd found
filter_keeps p (y ∷ ys) x (inl e) passes = rw (sym (ap p e) ∙ passes) (inl e)
filter_keeps p (y ∷ ys) x (inr later) passes =
    let rest : Among x (filter p ys) = filter_keeps p ys x later passes in
    elim (cases_Bool (p y)) [ inl yes_y ↦ rw yes_y (inr rest) | inr no_y ↦ rw no_y rest ]

pub filter_all : {X : Type 0} (P : X → Type 0) (p : X → Bool) (xs : List X) → AllByRecursion P xs → AllByRecursion P (filter p xs)
filter_all P p xs all = all_from P (filter p xs) (λ x found. all_at P xs x all (filter_gives p xs x found).0)

-- where the first filter keeps all that the second does, the second alone gives the same
pub filter_filter : {X : Type 0} (p q : X → Bool) (xs : List X) → ((x : X) → Among x xs → p x ≡ true → q x ≡ true) → filter p (filter q xs) ≡ filter p xs
filter_filter p q [] keeps = refl
filter_filter p q (y ∷ ys) keeps =
    let rest : filter p (filter q ys) ≡ filter p ys = filter_filter p q ys (λ x later. keeps x (inr later)) in
    elim (cases_Bool (p y)) [
      | inl yes_y ↦ rw (keeps y (inl refl) yes_y, yes_y) (ap (λ zs. y ∷ zs) rest)
      | inr no_y ↦ elim (cases_Bool (q y)) [ inl kept ↦ rw (kept, no_y) rest | inr left ↦ rw (left, no_y) rest ]
    ]

-- ---- two filters, and filters that keep all or nothing

pub filter_none : {X : Type 0} (p : X → Bool) (xs : List X) → AllByRecursion (λ x. p x ≡ false) xs → filter p xs ≡ []
filter_none p [] all = refl
filter_none p (x ∷ xs) all = rw all.0 (filter_none p xs all.1)

pub none_pass : {X : Type 0} (p : X → Bool) (xs : List X) → filter p xs ≡ [] → AllByRecursion (λ x. p x ≡ false) xs
none_pass p [] none = tt
none_pass p (x ∷ xs) none = elim (cases_Bool (p x)) [
  | inl yes_x ↦ (let never : x ∷ filter p xs ≡ [] = rw yes_x at none in absurd (cc))
  | inr no_x ↦ (no_x, none_pass p xs (rw no_x at none))
]

pub filter_swap : {X : Type 0} (p q : X → Bool) (xs : List X) → filter p (filter q xs) ≡ filter q (filter p xs)
filter_swap p q [] = refl
filter_swap p q (x ∷ xs) = elim (cases_Bool (p x)) [
  | inl yes_p ↦ elim (cases_Bool (q x)) [ inl yes_q ↦ rw (yes_q, yes_p, yes_q) (ap (λ l. x ∷ l) (filter_swap p q xs)) | inr no_q ↦ rw (no_q, yes_p, no_q) (filter_swap p q xs) ]
  | inr no_p ↦ elim (cases_Bool (q x)) [ inl yes_q ↦ rw (yes_q, no_p) (filter_swap p q xs) | inr no_q ↦ rw (no_q, no_p) (filter_swap p q xs) ]
]

-- where none passes, the opposite test keeps all
pub filter_not : {X : Type 0} (p : X → Bool) (xs : List X) → AllByRecursion (λ x. p x ≡ false) xs → filter (λ x. not (p x)) xs ≡ xs
filter_not p [] all = refl
filter_not p (x ∷ xs) all = rw all.0 (ap (λ l. x ∷ l) (filter_not p xs all.1))

pub filter_map : {X Y : Type 0} (f : X → Y) (p : Y → Bool) (xs : List X) → filter p (map f xs) ≡ map f (filter (λ x. p (f x)) xs)
filter_map f p [] = refl
filter_map f p (x ∷ xs) = elim (cases_Bool (p (f x))) [
  | inl yes_x ↦ rw yes_x (ap (λ ys. f x ∷ ys) (filter_map f p xs))
  | inr no_x ↦ rw no_x (filter_map f p xs)
]

-- ---- the only one that passes

not_empty : {X : Type 0} (b : List X) (x : X) (a : List X) → b ++ x ∷ a ≡ [] → ⊥
not_empty [] x a e = cc
not_empty (y ∷ b) x a e = (let never : y ∷ (b ++ x ∷ a) ≡ [] = e in cc)

-- all but that one pass the opposite test
pub filter_only : {X : Type 0} (p : X → Bool) (x : X) (b a : List X) → p x ≡ true → filter p (b ++ x ∷ a) ≡ x ∷ [] → filter (λ y. not (p y)) (b ++ x ∷ a) ≡ b ++ a
filter_only p x [] a passes one =
    let whole : x ∷ filter p a ≡ x ∷ [] = rw passes at one in
    let none : filter p a ≡ [] = cc in
    rw passes (filter_not p a (none_pass p a none))
filter_only p x (y ∷ b) a passes one = elim (cases_Bool (p y)) [
  | inl yes_y ↦
      let whole : y ∷ filter p (b ++ x ∷ a) ≡ x ∷ [] = rw yes_y at one in
      let none : filter p (b ++ x ∷ a) ≡ [] = cc in
      let never : filter p b ++ x ∷ filter p a ≡ [] = rw passes at (sym (filter-append p b (x ∷ a)) ∙ none) in
      absurd (not_empty (filter p b) x (filter p a) never)
  | inr no_y ↦ rw no_y (ap (λ l. y ∷ l) (filter_only p x b a passes (rw no_y at one)))
]

-- where it stands
pub only_among : {X : Type 0} (p : X → Bool) (x : X) (xs : List X) → filter p xs ≡ x ∷ [] → Among x xs
only_among p x xs one = (filter_gives p xs x (subst (Among x) (sym one) (inl refl))).0

-- ---- a list without one number

pub Among-without : (q r : ℕ) (xs : List ℕ) → Among q (without r xs) → Among q xs × (q ≢ r)
Among-without q r [] among = absurd among
Among-without q r (x ∷ xs) among =
    elim (cases_eq x r) [
      | inl same ↦ let later = Among-without q r xs (rw (eq-eqb x r same) at among) in (inr later.0, later.1)
      | inr other ↦
          let kept : Among q (x ∷ without r xs) = rw (ne_eqb x r other) at among in
          elim kept [
            | inl here ↦ (inl here, λ same. other (sym here ∙ same))
            | inr further ↦ let later = Among-without q r xs further in (inr later.0, later.1)
          ]
    ]

pub Among-without_other : (q r : ℕ) (xs : List ℕ) → q ≢ r → Among q xs → Among q (without r xs)
Among-without_other q r [] apart among = among
Among-without_other q r (x ∷ xs) apart (inl here) =
    rw (ne_eqb x r (λ same. apart (here ∙ same))) (inl here)
Among-without_other q r (x ∷ xs) apart (inr further) =
    let later = Among-without_other q r xs apart further in
    elim (cases_eq x r) [ inl same ↦ rw (eq-eqb x r same) later | inr other ↦ rw (ne_eqb x r other) (inr later) ]

pub NoRepeat-without : (r : ℕ) (xs : List ℕ) → NoRepeat xs → NoRepeat (without r xs)
NoRepeat-without r [] once = tt
NoRepeat-without r (x ∷ xs) once =
    let later = NoRepeat-without r xs once.1 in
    elim (cases_eq x r) [
      | inl same ↦ rw (eq-eqb x r same) later
      | inr other ↦ rw (ne_eqb x r other) (λ among. once.0 (Among-without x r xs among).0, later)
    ]

pub without-absent : (r : ℕ) (xs : List ℕ) → (Among r xs → ⊥) → without r xs ≡ xs
without-absent r [] absent = refl
without-absent r (x ∷ xs) absent =
    rw (ne_eqb x r (λ same. absent (inl (sym same)))) (ap (λ ys. x ∷ ys) (without-absent r xs (λ among. absent (inr among))))
