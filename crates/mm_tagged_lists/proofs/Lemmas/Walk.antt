-- A walk through a list, by `first` and `next`.
use Rattle.std.specs.Prelude.{◌==◌, if◌then◌else◌}
use Rattle.std.proofs.Common.{◌≡◌, ◌≢◌, ◌<◌, ◌≤◌, ℕ, List, [], ◌∷◌, ◌++◌, length, Option, Some, None, option_map, refl, sym, ap, subst, ◌∙◌, inl, inr, arith}
use Rattle.std.proofs.lemmas.Bool.{eq-eqb, ne_eqb, cases_eq, cases_lt}
use Rattle.std.proofs.lemmas.List.{get_or_past}
use Rattle.mm_tagged_lists.specs.declared.spot.Spot.{Spot}
use Rattle.mm_lists.specs.Members.{Among, NoRepeat, head}
use Rattle.mm_lists.proofs.Lemmas.Among.{among_right}
use Rattle.mm_lists.proofs.Lemmas.NoRepeat.{length-NoRepeat}
use Rattle.mm_lists.proofs.Lemmas.Cut.{cut_at, AreApart, AreApart-cut}
use Rattle.mm_links.proofs.Lemmas.Ends.{Among-head_or}
use Rattle.mm_tagged_lists.specs.TaggedLists.{Listing, ListsMatchSpots, list_of, list_at, FollowsInList}
use Rattle.mm_tagged_lists.proofs.Lemmas.Linked.{head_or-None}

-- the part of a list from this one on
abbrev pub rest_from : List ℕ → Option ℕ → List ℕ
rest_from rs None = []
rest_from [] (Some q) = []
rest_from (r ∷ rs) (Some q) = if r == q then r ∷ rs else rest_from rs (Some q)

pub Among-head : (rs : List ℕ) (q : ℕ) → head rs ≡ Some q → Among q rs
Among-head rs q is = Among-head_or rs q (head_or-None rs ∙ is)

-- from its first on, the list is whole
pub rest_from-head : (rs : List ℕ) → rest_from rs (head rs) ≡ rs
rest_from-head [] = refl
rest_from-head (r ∷ rs) = rw (eq-eqb r r refl) refl

-- what stands before q is left out
rest_from-append : (earlier rs : List ℕ) (q : ℕ) → (Among q earlier → ⊥) → rest_from (earlier ++ rs) (Some q) ≡ rest_from rs (Some q)
rest_from-append [] rs q absent = refl
rest_from-append (r ∷ earlier) rs q absent =
    rw (ne_eqb r q (λ same. absent (inl (sym same)))) (rest_from-append earlier rs q (λ among. absent (inr among)))

-- what follows r leads to the rest after it
rest_from-after : (earlier : List ℕ) (r : ℕ) (later : List ℕ) → AreApart earlier r later → rest_from (earlier ++ r ∷ later) (head later) ≡ later
rest_from-after earlier r [] apart = refl
rest_from-after earlier r (q ∷ later) apart =
    rest_from-append earlier (r ∷ q ∷ later) q (λ among. apart.disjoint q among (inl refl))
    ∙ rw (ne_eqb r q (λ same. apart.not_later (inl same))) (rest_from-head (q ∷ later))

module _ (s : Listing) (n r : ℕ) (next : Option ℕ) (among : Among r (list_at s n)) (is_next : FollowsInList s r next) where
  -- what follows r is in its list
  pub Among-next : (q : ℕ) → next ≡ Some q → Among q (list_at s n)
  Among-next q is =
      let cut = cut_at r (list_at s n) among in
      let first = sym (is_next n cut.earlier cut.later cut.whole) ∙ is in
      subst (Among q) (sym cut.whole) (among_right cut.earlier (r ∷ cut.later) q (inr (Among-head cut.later q first)))

  -- it is another one
  pub next-apart : NoRepeat (list_at s n) → (q : ℕ) → next ≡ Some q → q ≢ r
  next-apart once q is same =
      let cut = cut_at r (list_at s n) among in
      let apart = AreApart-cut cut.earlier r cut.later (subst NoRepeat cut.whole once) in
      let first = sym (is_next n cut.earlier cut.later cut.whole) ∙ is in
      apart.not_later (subst (λ x. Among x cut.later) same (Among-head cut.later q first))

  -- from r on, the list is r and what is left from the next on
  pub rest_from-next : NoRepeat (list_at s n) → rest_from (list_at s n) (Some r) ≡ r ∷ rest_from (list_at s n) next
  rest_from-next once =
      let cut = cut_at r (list_at s n) among in
      let apart = AreApart-cut cut.earlier r cut.later (subst NoRepeat cut.whole once) in
      let here : rest_from (list_at s n) (Some r) ≡ r ∷ cut.later =
      ap (λ rs. rest_from rs (Some r)) cut.whole ∙ rest_from-append cut.earlier (r ∷ cut.later) r apart.not_earlier ∙ rest_from-head (r ∷ cut.later) in
      let after : rest_from (list_at s n) next ≡ cut.later =
      ap (λ rs. rest_from rs next) cut.whole ∙ ap (rest_from (cut.earlier ++ r ∷ cut.later)) (is_next n cut.earlier cut.later cut.whole)
      ∙ rest_from-after cut.earlier r cut.later apart in
      here ∙ ap (λ rs. r ∷ rs) (sym after)

-- who is in a list is one of the numbers
pub among_in_range : (s : Listing) (n r : ℕ) → ListsMatchSpots s → Among r (list_at s n) → r < length s.spots
among_in_range s n r matched among = elim (cases_lt r (length s.spots)) [
  | inl within ↦ within
  | inr past ↦
      let is : list_of s r ≡ Some n = (matched.listed n r).0 among in
      let none : list_of s r ≡ None = ap (option_map (λ (k : Spot). k.list)) (get_or_past s.spots r None past) in
      let never : None ≡ Some n = sym none ∙ is in cc
]

-- no list is longer than the number of items
pub length-list : (s : Listing) (n : ℕ) → ListsMatchSpots s → length (list_at s n) ≤ length s.spots
length-list s n matched = length-NoRepeat (list_at s n) (length s.spots) (matched.once n) (λ r among. among_in_range s n r matched among)

rest_from-among : (rs : List ℕ) (q : ℕ) → Among q rs → 0 < length (rest_from rs (Some q))
rest_from-among [] q among = absurd among
rest_from-among (r ∷ rs) q (inl same) = rw (eq-eqb r q (sym same)) (omega arith)
rest_from-among (r ∷ rs) q (inr later) = elim (cases_eq r q) [
  | inl same ↦ rw (eq-eqb r q same) (omega arith)
  | inr apart ↦ rw (ne_eqb r q apart) (rest_from-among rs q later)
]

-- from one of its own on, a list has something
pub rest_from-some : (rs : List ℕ) (next : Option ℕ) (q : ℕ) → next ≡ Some q → Among q rs → 0 < length (rest_from rs next)
rest_from-some rs next q is among = rw is (rest_from-among rs q among)
