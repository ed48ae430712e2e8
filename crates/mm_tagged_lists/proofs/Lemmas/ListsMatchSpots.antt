-- Lists that match the spots: what is in them, and that they match at first, after an item is given a spot, and after it is freed.
use Rattle.std.proofs.Common.{IfSome, ◌≡◌, ◌≢◌, ℕ, zero, suc, ◌<◌, replicate, List, [], ◌∷◌, length, Option, Some, None, option_map, map, set, get_or, refl, sym, ap, subst, ◌∙◌, inl, inr, arith}
use Rattle.std.proofs.lemmas.Bool.{cases_eq, cases_lt}
use Rattle.std.proofs.lemmas.List.{get_or-set_same, get_or-set_other, get_or_past, set-get_or}
use Rattle.std.proofs.lemmas.Option.{same_Some}
use Rattle.std.proofs.Math.ListN.{get_or-map}
use Rattle.mm_tagged_lists.specs.declared.spot.Spot.{Spot}
use Rattle.mm_lists.specs.Members.{Among, NoRepeat, without}
use Rattle.mm_lists.proofs.Lemmas.Filter.{Among-without, Among-without_other, NoRepeat-without, without-absent}
use Rattle.mm_lists.proofs.Lemmas.Set.{get_or-set_cases}
use Rattle.mm_tagged_lists.specs.TaggedLists.{Listing, ListsMatchSpots, spot_at, list_of, list_at, unlisted, given, freed}

-- ---- what is in the lists

-- a list with a member is one of those that there are
pub list_in_range : (s : Listing) (n r : ℕ) → Among r (list_at s n) → n < length s.lists
list_in_range s n r among =
    elim (cases_lt n (length s.lists)) [
      | inl below ↦ below
      | inr past ↦ absurd (subst (Among r) (get_or_past s.lists n [] past) among)
    ]

list_of_spot : (o : Option Spot) (k : Spot) → o ≡ Some k → option_map (λ (k : Spot). k.list) o ≡ Some k.list
list_of_spot o k is = ap (option_map (λ (k : Spot). k.list)) is

list_of_no_spot : (o : Option Spot) → o ≡ None → option_map (λ (k : Spot). k.list) o ≡ None
list_of_no_spot o is = ap (option_map (λ (k : Spot). k.list)) is

module _ (s : Listing) (matched : ListsMatchSpots s) where
  -- an item without a spot is in no list
  pub in_no_list : (r : ℕ) → spot_at s r ≡ None → (n : ℕ) → Among r (list_at s n) → ⊥
  in_no_list r free n among =
      let never : None ≡ Some n = sym (list_of_no_spot (spot_at s r) free) ∙ (matched.listed n r).0 among in
      cc

  -- one with a spot is in the list of the spot
  pub in_its_list : (r : ℕ) (k : Spot) → spot_at s r ≡ Some k → Among r (list_at s k.list)
  in_its_list r k is = (matched.listed k.list r).1 (list_of_spot (spot_at s r) k is)

  -- and in no other
  pub one_list : (n m r : ℕ) → Among r (list_at s n) → Among r (list_at s m) → n ≡ m
  one_list n m r here there = same_Some n m (sym ((matched.listed n r).0 here) ∙ (matched.listed m r).0 there)

  -- what is in a list is an item
  pub in_range : (n r : ℕ) → Among r (list_at s n) → r < length s.spots
  in_range n r among =
      elim (cases_lt r (length s.spots)) [
        | inl below ↦ below
        | inr past ↦ absurd (in_no_list r (get_or_past s.spots r None past) n among)
      ]

  -- and the list of a spot is one of those that there are
  pub spot_in_range : (r : ℕ) (o : Option Spot) → o ≡ spot_at s r → IfSome o (λ spot. spot.list < length s.lists)
  spot_in_range r None is = tt
  spot_in_range r (Some k) is = list_in_range s k.list r (in_its_list r k (sym is))

-- ---- the spot of one item is written

module _ (s : Listing) (r : ℕ) (o : Option Spot) (lists : List (List ℕ)) where
  abbrev written : Listing
  written = record { spots = set s.spots r o; lists = lists }

  list_here : r < length s.spots → (q : ℕ) → q ≡ r → list_of written q ≡ option_map (λ (k : Spot). k.list) o
  list_here below q same =
      ap (λ x. option_map (λ (k : Spot). k.list) (get_or (set s.spots r o) x None)) same
      ∙ ap (option_map (λ (k : Spot). k.list)) (get_or-set_same s.spots r o None below)

  list_elsewhere : (q : ℕ) → q ≢ r → list_of written q ≡ list_of s q
  list_elsewhere q other = ap (option_map (λ (k : Spot). k.list)) (get_or-set_other s.spots r q o None other)

-- ---- at first

list_of_none : (n m : ℕ) → get_or (replicate {A = List ℕ} n []) m [] ≡ []
list_of_none zero m = refl
list_of_none (suc n) zero = refl
list_of_none (suc n) (suc m) = list_of_none n m

spot_of_none : (n r : ℕ) → get_or (replicate {A = Option Spot} n None) r None ≡ None
spot_of_none zero r = refl
spot_of_none (suc n) zero = refl
spot_of_none (suc n) (suc r) = spot_of_none n r

pub list_at-unlisted : (lists items n : ℕ) → list_at (unlisted lists items) n ≡ []
list_at-unlisted lists items n = list_of_none lists n

pub unlisted_matches : (lists items : ℕ) → ListsMatchSpots (unlisted lists items)
unlisted_matches lists items = record {
  listed = λ n r. (
    λ among. absurd (subst (Among r) (list_of_none lists n) among),
    λ is_in. absurd (let never : None ≡ Some n = sym (list_of_no_spot (spot_at (unlisted lists items) r) (spot_of_none items r)) ∙ is_in in cc),
  );
  once = λ n. subst NoRepeat (sym (list_of_none lists n)) tt;
}

-- ---- r is given a spot

module _ (s : Listing) (spot : Spot) (r : ℕ) (list : spot.list < length s.lists) (item : r < length s.spots) (free : spot_at s r ≡ None) (matched : ListsMatchSpots s) where
  in_list_of_spot : (m q : ℕ) → Among q (list_at (given s spot r) m) → list_of (given s spot r) q ≡ Some m
  in_list_of_spot m q =
      get_or-set_cases (λ rs. Among q rs → list_of (given s spot r) q ≡ Some m) s.lists spot.list (r ∷ list_at s spot.list) [] m list
      (λ same among. elim among [
        | inl new ↦ list_here s r (Some spot) (given s spot r).lists item q new ∙ ap Some (sym same)
        | inr old ↦
            list_elsewhere s r (Some spot) (given s spot r).lists q (λ is. in_no_list s matched r free spot.list (subst (λ k. Among k (list_at s spot.list)) is old))
            ∙ (matched.listed spot.list q).0 old ∙ ap Some (sym same)
      ])
      (λ _ old.
      list_elsewhere s r (Some spot) (given s spot r).lists q (λ is. in_no_list s matched r free m (subst (λ k. Among k (list_at s m)) is old))
      ∙ (matched.listed m q).0 old)

  placed_in_list : (m q : ℕ) → list_of (given s spot r) q ≡ Some m → Among q (list_at (given s spot r) m)
  placed_in_list m q is_in =
      elim (cases_eq q r) [
        | inl same ↦
            let its : spot.list ≡ m = same_Some spot.list m (sym (list_here s r (Some spot) (given s spot r).lists item q same) ∙ is_in) in
            get_or-set_cases (Among q) s.lists spot.list (r ∷ list_at s spot.list) [] m list (λ _. inl same) (λ other. absurd (other (sym its)))
        | inr other ↦
            let was : list_of s q ≡ Some m = sym (list_elsewhere s r (Some spot) (given s spot r).lists q other) ∙ is_in in
            get_or-set_cases (Among q) s.lists spot.list (r ∷ list_at s spot.list) [] m list
            (λ here. inr ((matched.listed spot.list q).1 (was ∙ ap Some here)))
            (λ _. (matched.listed m q).1 was)
      ]

  pub given_matches : ListsMatchSpots (given s spot r)
  given_matches = record {
    listed = λ m q. (in_list_of_spot m q, placed_in_list m q);
    once = λ m. get_or-set_cases NoRepeat s.lists spot.list (r ∷ list_at s spot.list) [] m list
        (λ _. (in_no_list s matched r free spot.list, matched.once spot.list)) (λ _. matched.once m);
  }

-- ---- r is freed

pub list_at-freed : (s : Listing) (r m : ℕ) → list_at (freed s r) m ≡ without r (list_at s m)
list_at-freed s r m = get_or-map (without r) s.lists m []

module _ (s : Listing) (r : ℕ) (item : r < length s.spots) (matched : ListsMatchSpots s) where
  pub freed_matches : ListsMatchSpots (freed s r)
  freed_matches = record {
    listed = λ m q. (
      λ among.
          let was = Among-without q r (list_at s m) (subst (Among q) (list_at-freed s r m) among) in
          list_elsewhere s r None (freed s r).lists q was.1 ∙ (matched.listed m q).0 was.0,
      λ is_in. subst (Among q) (sym (list_at-freed s r m)) (elim (cases_eq q r) [
        | inl same ↦ absurd (let never : None ≡ Some m = sym (list_here s r None (freed s r).lists item q same) ∙ is_in in cc)
        | inr other ↦ Among-without_other q r (list_at s m) other ((matched.listed m q).1 (sym (list_elsewhere s r None (freed s r).lists q other) ∙ is_in))
      ]),
    );
    once = λ m. subst NoRepeat (sym (list_at-freed s r m)) (NoRepeat-without r (list_at s m) (matched.once m));
  }

-- in the lists that have no r, nothing changes
map_without_absent : (r : ℕ) (lists : List (List ℕ)) → ((n : ℕ) → Among r (get_or lists n []) → ⊥) → map (without r) lists ≡ lists
map_without_absent r [] absent = refl
map_without_absent r (rs ∷ lists) absent = cc (without-absent r rs (absent 0), map_without_absent r lists (λ n. absent (suc n)))

-- so a list alone changes where no other one has r
pub map_without-set : (r : ℕ) (lists : List (List ℕ)) (n : ℕ) → ((m : ℕ) → m ≢ n → Among r (get_or lists m []) → ⊥) → map (without r) lists ≡ set lists n (without r (get_or lists n []))
map_without-set r [] n absent = refl
map_without-set r (rs ∷ lists) zero absent =
    ap (λ rest. without r rs ∷ rest) (map_without_absent r lists (λ m. absent (suc m) (λ never. absurd (omega arith))))
map_without-set r (rs ∷ lists) (suc n) absent =
    let here = without-absent r rs (absent 0 (λ never. absurd (omega arith))) in
    let rest = map_without-set r lists n (λ m other. absent (suc m) (λ same. other (omega arith))) in
    cc

-- and none where r has no spot
pub freed_unlisted : (s : Listing) (r : ℕ) → ListsMatchSpots s → spot_at s r ≡ None → freed s r ≡ s
freed_unlisted s r matched free =
    let spots : set s.spots r None ≡ s.spots = ap (set s.spots r) (sym free) ∙ set-get_or s.spots r None in
    let lists : map (without r) s.lists ≡ s.lists = map_without_absent r s.lists (in_no_list s matched r free) in
    λ i. record { spots = spots i; lists = lists i }
