-- Which number stands in which list.
use Rattle.std.proofs.Common.{◌≡◌, ◌≢◌, ◌↔◌, ℕ, ◌+◌, ◌<◌, ◌≤◌, List, [], ◌∷◌, ◌++◌, length, set, get_or, Option, Some, None, option_map, is_some, IsSome, true, false, refl, sym, ap, subst, ◌∙◌, inl, inr, arith, length-set, length-append, append-nil}
use Rattle.std.proofs.lemmas.Bool.{cases_eq, cases_lt}
use Rattle.std.proofs.lemmas.List.{get_or-set_same, get_or-set_other, get_or_past, length-map, length-replicate}
use Rattle.mm_lists.specs.Members.{Among, NoRepeat, without}
use Rattle.mm_lists.proofs.Lemmas.Among.{among_append, among_left, among_right}
use Rattle.mm_lists.proofs.Lemmas.Cut.{no_repeat_around}
use Rattle.mm_lists.proofs.Lemmas.NoRepeat.{length-NoRepeat}
use Rattle.mm_lists.proofs.Lemmas.Set.{read_replicate}
use Rattle.mm_tagged_lists.specs.TaggedLists.{Listing, unlisted, spot_at, given, freed}
use Rattle.mm_names.specs.declared.config.TheConstants.NamesConfig.{MAX_NAMES}
use Rattle.mm_names.specs.declared.spots.Spots.{Spots}
use Rattle.mm_names.specs.Names.{NameTable, name_of, nameless, with_name, IsNamed, IsFree, IsFull}
use Rattle.mm_names.specs.private.Spots.{spot_of}
use Rattle.mm_names.specs.private.Index.{AreAll, AreIndexed}

-- a name is that of one of the numbers
pub named_in_range : (t : NameTable) (n : ℕ) (name : List ℕ) → name_of t n ≡ Some name → n < length t.names
named_in_range t n name is = elim (cases_lt n (length t.names)) [
  | inl within ↦ within
  | inr past ↦ (let never : None ≡ Some name = sym (get_or_past t.names n None past) ∙ is in absurd (cc))
]

pub some_in_range : (t : NameTable) (n : ℕ) → is_some (name_of t n) ≡ true → n < length t.names
some_in_range t n some = elim (cases_lt n (length t.names)) [
  | inl within ↦ within
  | inr past ↦ (let never : false ≡ true = sym (ap is_some (get_or_past t.names n None past)) ∙ some in absurd (cc))
]

-- where a number is free, not each has a name
pub free_not_full : (t : NameTable) (n : ℕ) → IsFree t n → IsFull t → ⊥
free_not_full t n free full = let never : is_some (name_of t n) ≡ false = ap is_some free.1 in absurd (let both : true ≡ false = sym (full n free.0) ∙ never in cc)

module _ (t : NameTable) (index : Listing) (spots : Spots) (free : List ℕ) (indexed : AreIndexed t index spots free) where
  -- a free number stands nowhere
  pub at_none : (n : ℕ) → IsFree t n → spot_at index n ≡ None
  at_none n is_free = indexed.spots_of n ∙ ap (option_map (spot_of spots)) is_free.1

  -- a number that gets this name, or loses its own
  module _ (n : ℕ) (below : n < length t.names) (name : Option (List ℕ)) (fresh : (m : ℕ) (x : List ℕ) → name ≡ Some x → name_of t m ≡ Some x → ⊥) where
    name-here : name_of (with_name t n name) n ≡ name
    name-here = get_or-set_same t.names n name None below

    name-elsewhere : (m : ℕ) → m ≢ n → name_of (with_name t n name) m ≡ name_of t m
    name-elsewhere m apart = get_or-set_other t.names n m name None apart

    distinct : (a b : ℕ) (x : List ℕ) → name_of (with_name t n name) a ≡ Some x → name_of (with_name t n name) b ≡ Some x → a ≡ b
    distinct a b x is_a is_b = elim (cases_eq a n) [
      | inl a_is ↦ elim (cases_eq b n) [
        | inl b_is ↦ a_is ∙ sym b_is
        | inr b_apart ↦ absurd (fresh b x (sym name-here ∙ ap (name_of (with_name t n name)) (sym a_is) ∙ is_a) (sym (name-elsewhere b b_apart) ∙ is_b))
      ]
      | inr a_apart ↦ elim (cases_eq b n) [
        | inl b_is ↦ absurd (fresh a x (sym name-here ∙ ap (name_of (with_name t n name)) (sym b_is) ∙ is_b) (sym (name-elsewhere a a_apart) ∙ is_a))
        | inr b_apart ↦ indexed.distinct a b x (sym (name-elsewhere a a_apart) ∙ is_a) (sym (name-elsewhere b b_apart) ∙ is_b)
      ]
    ]

    module _ (after : Listing) (spots_are : after.spots ≡ set index.spots n (option_map (spot_of spots) name)) where
      spot-here : spot_at after n ≡ option_map (spot_of spots) name
      spot-here = ap (λ os. get_or os n None) spots_are ∙ get_or-set_same index.spots n _ None (omega (arith, indexed.size))

      spot-elsewhere : (m : ℕ) → m ≢ n → spot_at after m ≡ spot_at index m
      spot-elsewhere m apart = ap (λ os. get_or os m None) spots_are ∙ get_or-set_other index.spots n m _ None apart

      AreIndexed-set : length after.lists ≡ length index.lists → (left : List ℕ) → ((m : ℕ) → Among m left ↔ IsFree (with_name t n name) m) → NoRepeat left
          → AreIndexed (with_name t n name) after spots left
      AreIndexed-set lists left is_free once =
          let long = length-set t.names n name in
          record {
            few = omega (arith, long, indexed.few);
            size = ap length spots_are ∙ length-set index.spots n _ ∙ indexed.size ∙ sym long;
            lists = lists ∙ indexed.lists;
            spots_of = λ m. elim (cases_eq m n) [
              | inl same ↦ subst (λ i. spot_at after i ≡ option_map (spot_of spots) (name_of (with_name t n name) i)) (sym same) (spot-here ∙ ap (option_map (spot_of spots)) (sym name-here))
              | inr apart ↦ spot-elsewhere m apart ∙ indexed.spots_of m ∙ ap (option_map (spot_of spots)) (sym (name-elsewhere m apart))
            ];
            distinct = distinct;
            listed = is_free;
            once = once;
          }

-- one more, which the list has not yet
pub NoRepeat-push : (xs : List ℕ) (x : ℕ) → NoRepeat xs → (Among x xs → ⊥) → NoRepeat (xs ++ x ∷ [])
NoRepeat-push [] x once apart = (λ found. found, tt)
NoRepeat-push (y ∷ ys) x once apart = (
  λ again. elim (among_append ys (x ∷ []) y again) [ inl before ↦ once.0 before | inr here ↦ elim here [ inl same ↦ apart (inl (sym same)) | inr never ↦ absurd never ] ],
  NoRepeat-push ys x once.1 (λ later. apart (inr later)),
)

module _ (t : NameTable) (index : Listing) (spots : Spots) (free : List ℕ) (indexed : AreIndexed t index spots free) (n : ℕ) where
  -- the last of the free numbers is free
  pub last_is_free : (rest : List ℕ) → free ≡ rest ++ n ∷ [] → IsFree t n
  last_is_free rest is = (indexed.listed n).0 (subst (Among n) (sym is) (among_right rest (n ∷ []) n (inl refl)))

  -- after it got a new name
  pub AreIndexed-given : (rest : List ℕ) → free ≡ rest ++ n ∷ [] → (name : List ℕ) → ¬ IsNamed t name → AreIndexed (with_name t n (Some name)) (given index (spot_of spots name) n) spots rest
  AreIndexed-given rest is name new =
      let was : IsFree t n = last_is_free rest is in
      let t' = with_name t n (Some name) in
      let long = length-set t.names n (Some name) in
      let once = no_repeat_around n rest [] (subst NoRepeat is indexed.once) in
      let rest_is : rest ++ [] ≡ rest = append-nil rest in
      AreIndexed-set t index spots free indexed n was.0 (Some name) (λ m x same has. new (m, has ∙ sym same)) (given index (spot_of spots name) n) refl
      (length-set index.lists (spot_of spots name).list _) rest
      (λ m. (
        λ among.
            let old : IsFree t m = (indexed.listed m).0 (subst (Among m) (sym is) (among_left rest (n ∷ []) m among)) in
            let apart : m ≢ n = λ same. once.1 (subst (λ i. Among i (rest ++ [])) same (subst (Among m) (sym rest_is) among)) in
            (omega (arith, old.0, long), get_or-set_other t.names n m (Some name) None apart ∙ old.1),
        λ now. elim (cases_eq m n) [
          | inl same ↦ (let never : Some name ≡ None = sym (get_or-set_same t.names n (Some name) None was.0) ∙ ap (name_of t') (sym same) ∙ now.1 in absurd (cc))
          | inr apart ↦ elim (among_append rest (n ∷ []) m (subst (Among m) is ((indexed.listed m).1 (omega (arith, now.0, long), sym (get_or-set_other t.names n m (Some name) None apart) ∙ now.1)))) [
            | inl left ↦ left
            | inr here ↦ elim here [ inl same ↦ absurd (apart same) | inr never ↦ absurd never ]
          ]
        ],
      ))
      (subst NoRepeat rest_is once.0)

  module _ (some : IsSome (name_of t n)) where
    named : name_of t n ≡ None → ⊥
    named none = let never : true ≡ false = sym some ∙ ap is_some none in cc

    once_more : NoRepeat (free ++ n ∷ [])
    once_more = NoRepeat-push free n indexed.once (λ among. named ((indexed.listed n).0 among).1)

  -- after a name was taken from its number
  pub AreIndexed-taken : n < length t.names → IsSome (name_of t n) → AreIndexed (with_name t n None) (freed index n) spots (free ++ n ∷ [])
  AreIndexed-taken below some =
      let long = length-set t.names n None in
      AreIndexed-set t index spots free indexed n below None (λ m x is has. cc) (freed index n) refl
      (length-map index.lists (without n)) (free ++ n ∷ [])
      (λ m. (
        λ among. elim (among_append free (n ∷ []) m among) [
          | inl before ↦
              let old : IsFree t m = (indexed.listed m).0 before in
              let apart : m ≢ n = λ same. named some (ap (name_of t) (sym same) ∙ old.1) in
              (omega (arith, old.0, long), get_or-set_other t.names n m None None apart ∙ old.1)
          | inr here ↦ elim here [
            | inl same ↦ (omega (arith, below, same, long), ap (λ i. get_or (set t.names n None) i None) same ∙ get_or-set_same t.names n None None below)
            | inr never ↦ absurd never
          ]
        ],
        λ now. elim (cases_eq m n) [
          | inl same ↦ among_right free (n ∷ []) m (inl same)
          | inr apart ↦ among_left free (n ∷ []) m ((indexed.listed m).1 (omega (arith, now.0, long), sym (get_or-set_other t.names n m None None apart) ∙ now.1))
        ],
      ))
      (once_more some)

  -- there is room for one more free number
  pub few_free : IsSome (name_of t n) → length free + 1 ≤ length t.names
  few_free some =
      let within : (m : ℕ) → Among m (free ++ n ∷ []) → m < length t.names = λ m among. elim (among_append free (n ∷ []) m among) [
        | inl before ↦ ((indexed.listed m).0 before).0
        | inr here ↦ elim here [ inl same ↦ subst (λ i. i < length t.names) (sym same) (some_in_range t n some) | inr never ↦ absurd never ]
      ] in
      omega (arith, length-append free (n ∷ []), length-NoRepeat (free ++ n ∷ []) (length t.names) (once_more some) within)

-- at the opening
pub AreIndexed-nameless : (t : NameTable) (index : Listing) (spots : Spots) (free : List ℕ) (numbers name_bytes : ℕ) → numbers ≤ MAX_NAMES → t ≡ nameless numbers name_bytes
    → index ≡ unlisted spots.lists numbers → AreAll numbers free → AreIndexed t index spots free
AreIndexed-nameless t index spots free numbers name_bytes small is made all =
    let long : length t.names ≡ numbers = ap (λ (s : NameTable). length s.names) is ∙ length-replicate numbers None in
    let none : (n : ℕ) → name_of t n ≡ None = λ n. ap (λ s. name_of s n) is ∙ read_replicate None numbers n in
    let nothing : (n : ℕ) (name : List ℕ) → name_of t n ≡ Some name → ⊥ = λ n name has. (let never : None ≡ Some name = sym (none n) ∙ has in cc) in
    record {
      few = omega (arith, long, small);
      size = ap (λ (o : Listing). length o.spots) made ∙ length-replicate numbers None ∙ sym long;
      lists = ap (λ (o : Listing). length o.lists) made ∙ length-replicate spots.lists [];
      spots_of = λ n. ap (λ o. spot_at o n) made ∙ read_replicate None numbers n ∙ ap (option_map (spot_of spots)) (sym (none n));
      distinct = λ m n name has _. absurd (nothing m name has);
      listed = λ n. (λ among. (let below : n < numbers = (all.all n).0 among in (omega (arith, below, long), none n)), λ now. (all.all n).1 (omega (arith, now.0, long)));
      once = all.once;
    }
