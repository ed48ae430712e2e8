-- How many items each list has: after one is given a spot, after it is freed, and after all of a list are freed.
use Rattle.std.proofs.Common.{◌≡◌, ◌≢◌, ℕ, suc, ◌<◌, ◌≤◌, List, [], ◌∷◌, Some, None, length, fold, get_or, set, refl, sym, ap, subst, ◌∙◌, inl, inr, arith, length-set, length-append}
use Rattle.std.proofs.lemmas.Bool.{cases_eq}
use Rattle.std.proofs.lemmas.List.{get_or_default, get_or-set_same, get_or-set_other, length-map}
use Rattle.mm_tagged_lists.specs.declared.spot.Spot.{Spot}
use Rattle.mm_lists.specs.Members.{Among, NoRepeat, without}
use Rattle.mm_lists.proofs.Lemmas.Cut.{cut_at, without-cut, AreApart-cut}
use Rattle.mm_lists.proofs.Lemmas.Filter.{Among-without, without-absent}
use Rattle.mm_lists.proofs.Lemmas.NoRepeat.{length-NoRepeat}
use Rattle.mm_tagged_lists.specs.TaggedLists.{Listing, ListsMatchSpots, spot_at, list_at, given, freed}
use Rattle.mm_tagged_lists.specs.private.Counted.{AreCounted}
use Rattle.mm_tagged_lists.proofs.Lemmas.ListsMatchSpots.{in_no_list, in_its_list, in_range, list_in_range, one_list, list_at-freed}

length_without : (r : ℕ) (xs : List ℕ) → NoRepeat xs → Among r xs → suc (length (without r xs)) ≡ length xs
length_without r xs once among =
    let cut = cut_at r xs among in
    let apart = AreApart-cut cut.earlier r cut.later (subst NoRepeat cut.whole once) in
    let left = ap (without r) cut.whole ∙ without-cut cut.earlier r cut.later apart in
    omega (arith, ap length left, ap length cut.whole, length-append cut.earlier cut.later, length-append cut.earlier (r ∷ cut.later))

-- without each of these
abbrev without_all : List ℕ → List ℕ → List ℕ
without_all xs rs = fold (λ ys r. without r ys) xs rs

without_all-absent : (rs xs : List ℕ) → ((r : ℕ) → Among r rs → Among r xs → ⊥) → without_all xs rs ≡ xs
without_all-absent [] xs absent = refl
without_all-absent (r ∷ rs) xs absent =
    ap (λ ys. without_all ys rs) (without-absent r xs (absent r (inl refl))) ∙ without_all-absent rs xs (λ q there. absent q (inr there))

nothing_among : (xs : List ℕ) → ((x : ℕ) → Among x xs → ⊥) → xs ≡ []
nothing_among [] none = refl
nothing_among (x ∷ xs) none = absurd (none x (inl refl))

without_all-same : (rs xs : List ℕ) → ((x : ℕ) → Among x xs → Among x rs) → without_all xs rs ≡ []
without_all-same [] xs within = nothing_among xs within
without_all-same (r ∷ rs) xs within =
    without_all-same rs (without r xs) (λ x there.
    let was = Among-without x r xs there in
    elim (within x was.0) [
      | inl same ↦ absurd (was.1 same)
      | inr later ↦ later
    ])

list_at-freed_all : (rs : List ℕ) (s : Listing) (m : ℕ) → list_at (fold freed s rs) m ≡ without_all (list_at s m) rs
list_at-freed_all [] s m = refl
list_at-freed_all (r ∷ rs) s m = list_at-freed_all rs (freed s r) m ∙ ap (λ xs. without_all xs rs) (list_at-freed s r m)

as_many_lists : (rs : List ℕ) (s : Listing) → length (fold freed s rs).lists ≡ length s.lists
as_many_lists [] s = refl
as_many_lists (r ∷ rs) s = as_many_lists rs (freed s r) ∙ length-map s.lists (without r)

-- where one list changes, and so does its length
module _ (s t : Listing) (lens : List ℕ) (n x : ℕ) (below : n < length s.lists) (counted : AreCounted s lens) (lists : length t.lists ≡ length s.lists) (here : x ≡ length (list_at t n))
    (elsewhere : (m : ℕ) → m ≢ n → list_at t m ≡ list_at s m) where
  counted_changed : AreCounted t (set lens n x)
  counted_changed = record {
    as_many = length-set lens n x ∙ counted.as_many ∙ sym lists;
    each = λ m. elim (cases_eq m n) [
      | inl same ↦
          ap (λ k. get_or (set lens n x) k 0) same ∙ get_or-set_same lens n x 0 (omega (arith, counted.as_many, below))
          ∙ here ∙ ap (λ k. length (list_at t k)) (sym same)
      | inr other ↦ get_or-set_other lens n m x 0 other ∙ counted.each m ∙ ap length (sym (elsewhere m other))
    ];
  }

module _ (s : Listing) (lens : List ℕ) (matched : ListsMatchSpots s) (counted : AreCounted s lens) where
  -- what a read gives
  pub read_length : (n x d : ℕ) → n < length s.lists → x ≡ get_or lens n d → x ≡ length (list_at s n)
  read_length n x d below read = read ∙ get_or_default lens n d 0 (omega (arith, counted.as_many, below)) ∙ counted.each n

  module _ (spot : Spot) (r : ℕ) where
    -- there is room for one more
    pub few_given : spot_at s r ≡ None → r < length s.spots → suc (length (list_at s spot.list)) ≤ length s.spots
    few_given free item =
        length-NoRepeat (r ∷ list_at s spot.list) (length s.spots) (in_no_list s matched r free spot.list, matched.once spot.list)
        (λ q among. elim among [
          | inl same ↦ subst (λ k. k < length s.spots) (sym same) item
          | inr there ↦ in_range s matched spot.list q there
        ])

    pub counted_given : (x : ℕ) → spot.list < length s.lists → x ≡ suc (length (list_at s spot.list)) → AreCounted (given s spot r) (set lens spot.list x)
    counted_given x below is =
        counted_changed s (given s spot r) lens spot.list x below counted (length-set s.lists spot.list (r ∷ list_at s spot.list))
        (is ∙ ap length (sym (get_or-set_same s.lists spot.list (r ∷ list_at s spot.list) [] below)))
        (λ m other. get_or-set_other s.lists spot.list m (r ∷ list_at s spot.list) [] other)

    -- there is one to be taken
    pub some_freed : spot_at s r ≡ Some spot → suc (length (list_at (freed s r) spot.list)) ≡ length (list_at s spot.list)
    some_freed placed =
        ap (λ xs. suc (length xs)) (list_at-freed s r spot.list)
        ∙ length_without r (list_at s spot.list) (matched.once spot.list) (in_its_list s matched r spot placed)

    pub list_below : spot_at s r ≡ Some spot → spot.list < length s.lists
    list_below placed = list_in_range s spot.list r (in_its_list s matched r spot placed)

    pub counted_freed : (x : ℕ) → spot_at s r ≡ Some spot → suc x ≡ length (list_at s spot.list) → AreCounted (freed s r) (set lens spot.list x)
    counted_freed x placed is =
        counted_changed s (freed s r) lens spot.list x (list_below placed) counted (length-map s.lists (without r))
        (omega (arith, is, some_freed placed))
        (λ m other. list_at-freed s r m ∙ without-absent r (list_at s m) (λ there. other (one_list s matched m spot.list r there (in_its_list s matched r spot placed))))

  pub counted_freed_all : (n : ℕ) → n < length s.lists → AreCounted (fold freed s (list_at s n)) (set lens n 0)
  counted_freed_all n below =
      counted_changed s (fold freed s (list_at s n)) lens n 0 below counted (as_many_lists (list_at s n) s)
      (sym (ap length (list_at-freed_all (list_at s n) s n ∙ without_all-same (list_at s n) (list_at s n) (λ x there. there))))
      (λ m other. list_at-freed_all (list_at s n) s m ∙ without_all-absent (list_at s n) (list_at s m) (λ r there here. other (one_list s matched m n r here there)))
