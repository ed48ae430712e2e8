-- Lists in which nothing stands twice, and lists whose members differ in a number.
use Rattle.std.proofs.Common.{◌≡◌, ◌≢◌, ℕ, ◌<◌, ◌≤◌, Bool, true, false, eqb, nat_eq, List, [], ◌∷◌, ◌++◌, length, map, filter, find, Some, refl, sym, ap, ◌∙◌, inl, inr, rules, drop, slice_index}
use Rattle.std.specs.List.{IsDistinct, AllByRecursion, list_any}
use Rattle.std.proofs.lemmas.Bool.{cases_Bool, cases_eq, eq-eqb, ne_eqb}
use Rattle.std.proofs.lemmas.Map.Steps.{length-le_from_distinct_below}
use Rattle.mm_lists.specs.Members.{Among, NoRepeat}
use Rattle.mm_lists.proofs.Lemmas.Among.{among_append, among_map, among_map_gives}
use Rattle.mm_lists.proofs.Lemmas.Filter.{filter_gives}

-- ---- members with a number each

pub no_repeat_filter : {X Y : Type 0} (f : X → Y) (p : X → Bool) (xs : List X) → NoRepeat (map f xs) → NoRepeat (map f (filter p xs))
no_repeat_filter f p [] once = tt
no_repeat_filter {X} f p (y ∷ ys) once =
    let rest : NoRepeat (map f (filter p ys)) = no_repeat_filter f p ys once.1 in
    elim (cases_Bool (p y)) [
      | inl yes_y ↦ rw yes_y (
        λ again.
            let other : (x : X) × Among x (filter p ys) × (f y ≡ f x) = among_map_gives f (filter p ys) (f y) again in
            once.0 (rw other.2 (among_map f ys other.0 (filter_gives p ys other.0 other.1).0)),
        rest,
      )
      | inr no_y ↦ rw no_y rest
    ]

-- one more, with a number that none of them has
pub no_repeat_push : {X Y : Type 0} (f : X → Y) (xs : List X) (x : X) → NoRepeat (map f xs) → ((y : X) → Among y xs → f y ≢ f x) → NoRepeat (map f (xs ++ x ∷ []))
no_repeat_push f [] x once apart = (λ found. found, tt)
no_repeat_push {X} f (y ∷ ys) x once apart = (
  λ again.
      let other : (z : X) × Among z (ys ++ x ∷ []) × (f y ≡ f z) = among_map_gives f (ys ++ x ∷ []) (f y) again in
      elim (among_append ys (x ∷ []) other.0 other.1) [
        | inl before ↦ once.0 (rw other.2 (among_map f ys other.0 before))
        | inr here ↦ elim here [ inl e ↦ apart y (inl refl) (other.2 ∙ ap f e) | inr never ↦ absurd never ]
      ],
  no_repeat_push f ys x once.1 (λ z later. apart z (inr later)),
)

-- the member with a number is the one that is found by it
pub found_by_number : {X : Type 0} (f : X → ℕ) (xs : List X) (x : X) (n : ℕ) → NoRepeat (map f xs) → Among x xs → f x ≡ n → find (λ y. nat_eq (f y) n) xs ≡ Some x
found_by_number f [] x n once found e = absurd found
found_by_number f (y ∷ ys) x n once (inl same) e = rw (eq-eqb (f y) n (sym (ap f same) ∙ e)) (ap Some (sym same))
found_by_number f (y ∷ ys) x n once (inr later) e =
    let other : nat_eq (f y) n ≡ false = ne_eqb (f y) n (λ here. once.0 (rw (here ∙ sym e) (among_map f ys x later))) in
    rw other (found_by_number f ys x n once.1 later e)

-- ---- how long a list of distinct numbers is

Among-list_any : (q : ℕ) (xs : List ℕ) → list_any (eqb q) xs ≡ true → Among q xs
Among-list_any q [] any = absurd (search rules)
Among-list_any q (x ∷ xs) any =
    elim (cases_eq q x) [
      | inl same ↦ inl same
      | inr other ↦ inr (Among-list_any q xs (rw (ne_eqb q x other) at any))
    ]

all_differ : (r : ℕ) (xs : List ℕ) → (Among r xs → ⊥) → AllByRecursion (λ x. eqb r x ≡ false) xs
all_differ r [] absent = tt
all_differ r (x ∷ xs) absent = (ne_eqb r x (λ same. absent (inl same)), all_differ r xs (λ among. absent (inr among)))

IsDistinct-NoRepeat : (xs : List ℕ) → NoRepeat xs → IsDistinct eqb xs
unfolding IsDistinct
IsDistinct-NoRepeat [] once = tt
IsDistinct-NoRepeat (x ∷ xs) once = (all_differ x xs once.0, IsDistinct-NoRepeat xs once.1)

pub length-NoRepeat : (xs : List ℕ) (n : ℕ) → NoRepeat xs → ((q : ℕ) → Among q xs → q < n) → length xs ≤ n
length-NoRepeat xs n once below =
    length-le_from_distinct_below xs n (IsDistinct-NoRepeat xs once) (λ q any. below q (Among-list_any q xs any))

pub no_repeat_rest : {X : Type 0} (xs : List X) → NoRepeat xs → NoRepeat (drop 1 xs)
no_repeat_rest [] once = tt
no_repeat_rest (y ∷ ys) once = once.1

-- the first of a list without repeats does not stand in the rest
pub first_apart : (ns : List ℕ) → NoRepeat ns → (m : ℕ) → Among m (drop 1 ns) → m ≢ slice_index ns 0
first_apart [] once m among e = absurd among
first_apart (n ∷ ns) once m among e = once.0 (rw e at among)
