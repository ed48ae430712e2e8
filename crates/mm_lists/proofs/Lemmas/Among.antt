-- Members of lists: of two lists in a row, of a list that is mapped, and facts of all of them.
use Rattle.std.proofs.Common.{◌≡◌, ◌⊎◌, Bool, true, List, [], ◌∷◌, ◌++◌, map, inl, inr, refl, ap, ◌∙◌, ◌≢◌, ℕ, length, drop, slice_index}
use Rattle.std.specs.List.{AllByRecursion, list_all}
use Rattle.std.proofs.lemmas.Bool.{and_parts, and_from, cases_eq}
use Rattle.mm_lists.specs.Members.{Among}

-- ---- a fact of all members

pub all_at : {X : Type 0} (P : X → Type 0) (xs : List X) (x : X) → AllByRecursion P xs → Among x xs → P x
all_at P [] x all found = absurd found
all_at P (y ∷ ys) x all (inl e) = rw e all.0
all_at P (y ∷ ys) x all (inr later) = all_at P ys x all.1 later

pub all_from : {X : Type 0} (P : X → Type 0) (xs : List X) → ((x : X) → Among x xs → P x) → AllByRecursion P xs
all_from P [] each = tt
all_from P (y ∷ ys) each = (each y (inl refl), all_from P ys (λ x later. each x (inr later)))

pub list_all_at : {X : Type 0} (p : X → Bool) (xs : List X) (x : X) → list_all p xs ≡ true → Among x xs → p x ≡ true
list_all_at p [] x all found = absurd found
list_all_at p (y ∷ ys) x all (inl e) = ap p e ∙ (and_parts (p y) (list_all p ys) all).0
list_all_at p (y ∷ ys) x all (inr later) = list_all_at p ys x (and_parts (p y) (list_all p ys) all).1 later

pub list_all_from : {X : Type 0} (p : X → Bool) (xs : List X) → ((x : X) → Among x xs → p x ≡ true) → list_all p xs ≡ true
list_all_from p [] each = refl
list_all_from p (y ∷ ys) each = and_from (p y) (list_all p ys) (each y (inl refl)) (list_all_from p ys (λ x later. each x (inr later)))

pub all_map : {X : Type 0} (P Q : X → Type 0) → ((x : X) → P x → Q x) → (xs : List X) → AllByRecursion P xs → AllByRecursion Q xs
all_map P Q each [] all = tt
all_map P Q each (x ∷ xs) all = (each x all.0, all_map P Q each xs all.1)

-- ---- two lists in a row

pub all_append : {X : Type 0} (P : X → Type 0) (xs ys : List X) → AllByRecursion P xs → AllByRecursion P ys → AllByRecursion P (xs ++ ys)
all_append P [] ys first second = second
all_append P (x ∷ xs) ys first second = (first.0, all_append P xs ys first.1 second)

pub all_around : {X : Type 0} (P : X → Type 0) (before : List X) (x : X) (after : List X) → AllByRecursion P (before ++ x ∷ after) → AllByRecursion P (before ++ after)
all_around P [] x after all = all.1
all_around P (y ∷ before) x after all = (all.0, all_around P before x after all.1)

pub among_append : {X : Type 0} (xs ys : List X) (x : X) → Among x (xs ++ ys) → Among x xs ⊎ Among x ys
among_append [] ys x found = inr found
among_append (z ∷ zs) ys x (inl e) = inl (inl e)
among_append (z ∷ zs) ys x (inr later) = elim (among_append zs ys x later) [ inl left ↦ inl (inr left) | inr right ↦ inr right ]

pub among_left : {X : Type 0} (xs ys : List X) (x : X) → Among x xs → Among x (xs ++ ys)
among_left [] ys x found = absurd found
among_left (z ∷ zs) ys x (inl e) = inl e
among_left (z ∷ zs) ys x (inr later) = inr (among_left zs ys x later)

pub among_right : {X : Type 0} (xs ys : List X) (x : X) → Among x ys → Among x (xs ++ ys)
among_right [] ys x found = found
among_right (z ∷ zs) ys x found = inr (among_right zs ys x found)

-- ---- a list that is mapped

pub among_map : {X Y : Type 0} (f : X → Y) (xs : List X) (x : X) → Among x xs → Among (f x) (map f xs)
among_map f [] x found = found
among_map f (y ∷ ys) x (inl e) = inl (ap f e)
among_map f (y ∷ ys) x (inr later) = inr (among_map f ys x later)

pub among_map_gives : {X Y : Type 0} (f : X → Y) (xs : List X) (y : Y) → Among y (map f xs) → (x : X) × Among x xs × (y ≡ f x)
among_map_gives f [] y found = absurd found
among_map_gives f (z ∷ zs) y (inl e) = (z, inl refl, e)
among_map_gives {X} f (z ∷ zs) y (inr later) = let rest : (x : X) × Among x zs × (y ≡ f x) = among_map_gives f zs y later in (rest.0, inr rest.1, rest.2)

pub among_or_not : (n : ℕ) (ns : List ℕ) → Among n ns ⊎ (Among n ns → ⊥)
among_or_not n [] = inr (λ found. found)
among_or_not n (m ∷ ms) = elim (cases_eq n m) [
  | inl e ↦ inl (inl e)
  | inr apart ↦ elim (among_or_not n ms) [
    | inl later ↦ inl (inr later)
    | inr never ↦ inr (λ found. elim found [ inl e ↦ apart e | inr later ↦ never later ])
  ]
]

-- ---- the first member, and the others

pub first_among : (ns : List ℕ) → length ns ≢ 0 → Among (slice_index ns 0) ns
first_among [] some = absurd (some refl)
first_among (n ∷ ns) some = inl refl

pub among_rest_gives : {X : Type 0} (xs : List X) (x : X) → Among x (drop 1 xs) → Among x xs
among_rest_gives [] x among = among
among_rest_gives (y ∷ ys) x among = inr among

pub all_rest : {X : Type 0} (P : X → Type 0) (xs : List X) → AllByRecursion P xs → AllByRecursion P (drop 1 xs)
all_rest P [] all = tt
all_rest P (y ∷ ys) all = all.1
