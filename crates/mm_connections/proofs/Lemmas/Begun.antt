-- Which connection began a transaction, after each change.
use Rattle.std.proofs.Common.{◌≡◌, ◌≢◌, ◌<◌, ◌⊎◌, ◌/◌, ℕ, Bool, List, [], ◌∷◌, length, option_map, Option, Some, None, nat_eq, if◌then◌else◌, slice_set, slice_index_or, inl, inr, refl, sym, ap, subst, ◌∙◌, arith, length-set, get_or-set_same, get_or-set_other}
use Rattle.std.proofs.lemmas.Bool.{cases_Bool, cases_eq, cases_lt, eqb-true, eq-eqb}
use Rattle.std.proofs.lemmas.Option.{same_Some}
use Rattle.std.proofs.Math.ListN.{length-map}
use Rattle.std.proofs.lemmas.List.{get_or_past}
use Rattle.mm_arena.specs.declared.key.Key.{Key}
use Rattle.mm_lists.specs.Members.{Among, NoRepeat, head, without}
use Rattle.mm_lists.proofs.Lemmas.Filter.{without-absent}
use Rattle.mm_tagged_lists.specs.declared.spot.Spot.{Spot}
use Rattle.mm_tagged_lists.specs.TaggedLists.{Listing, ListsMatchSpots, spot_at, list_at, freed}
use Rattle.mm_tagged_lists.proofs.Lemmas.ListsMatchSpots.{in_no_list, in_range, list_at-freed, freed_matches, given_matches}
use Rattle.mm_tagged_lists.proofs.Lemmas.Walk.{Among-head}
use Rattle.mm_connections.specs.Begun.{aside_list, aside_by, connection_in, connection_of, IsOf, listed, now_aside, open_list, set_aside}

pub none_here : (os : List (Option Spot)) (p : ℕ) → slice_index_or (slice_set os p None) p None ≡ None
none_here os p = elim (cases_lt p (length os)) [
  | inl within ↦ get_or-set_same os p None None within
  | inr past ↦ get_or_past (slice_set os p None) p None (omega (arith, length-set os p None))
]

-- nobody began the transaction of a process that was freed
pub freed_here : (b : Listing) (t : Key) → connection_of (freed b t.process) t ≡ None
freed_here b t = ap (λ o. connection_in o t.generation) (none_here b.spots t.process)

pub freed_spot_else : (b : Listing) (p q : ℕ) → q ≢ p → spot_at (freed b p) q ≡ spot_at b q
freed_spot_else b p q apart = get_or-set_other b.spots p q None None apart

pub freed_else : (b : Listing) (p : ℕ) (t : Key) → t.process ≢ p → connection_of (freed b p) t ≡ connection_of b t
freed_else b p t apart = ap (λ o. connection_in o t.generation) (freed_spot_else b p t.process apart)

pub listed_else : (b : Listing) (n : ℕ) (k t : Key) → t.process ≢ k.process → connection_of (listed b n k) t ≡ connection_of b t
listed_else b n k t apart =
    ap (λ o. connection_in o t.generation) (get_or-set_other (freed b k.process).spots k.process t.process (Some (record { list = n; tag = k.generation })) None apart ∙ freed_spot_else b k.process t.process apart)

-- ---- the two lists of a connection

pub half_open : (c : ℕ) → open_list c / 2 ≡ c
half_open c = omega arith

pub half_aside : (c : ℕ) → aside_list c / 2 ≡ c
half_aside c = omega arith

pub either_list : (n c : ℕ) → n / 2 ≡ c → (n ≡ open_list c) ⊎ (n ≡ aside_list c)
either_list n c half = elim (cases_eq n (open_list c)) [ inl same ↦ inl same | inr other ↦ inr (omega (arith, half, other)) ]

-- what is kept of a transaction of connection c
pub record IsKept (b : Listing) (c : ℕ) (t : Key) : Type 0 where
  pub list : ℕ
  pub half : list / 2 ≡ c
  pub at : spot_at b t.process ≡ Some (record { list = list; tag = t.generation })

kept_by : (b : Listing) (c : ℕ) (t : Key) (o : Option Spot) → spot_at b t.process ≡ o → connection_in o t.generation ≡ Some c → IsKept b c t
kept_by b c t None at is = absurd (cc)
kept_by b c t (Some k) at is = elim (cases_Bool (nat_eq k.tag t.generation)) [
  | inl equal ↦
      let some : Some (k.list / 2) ≡ Some c = sym (ap (λ (x : Bool). if x then Some (k.list / 2) else None) equal) ∙ is in
      let tag : k.tag ≡ t.generation = eqb-true k.tag t.generation equal in
      record { list = k.list; half = same_Some (k.list / 2) c some; at = at ∙ (λ i. Some (record { list = k.list; tag = tag i })) }
  | inr other ↦
      let none : None ≡ Some c = sym (ap (λ (x : Bool). if x then Some (k.list / 2) else None) other) ∙ is in
      absurd (cc)
]

pub kept : (b : Listing) (c : ℕ) (t : Key) → IsOf b c t → IsKept b c t
kept b c t is = kept_by b c t (spot_at b t.process) refl is

-- a transaction with this spot is of that connection
pub of_spot : (b : Listing) (c list : ℕ) (t : Key) → spot_at b t.process ≡ Some (record { list = list; tag = t.generation }) → list / 2 ≡ c → IsOf b c t
of_spot b c list t at half =
    ap (λ o. connection_in o t.generation) at ∙ ap (λ (x : Bool). if x then Some (list / 2) else None) (eq-eqb t.generation t.generation refl) ∙ ap Some half

-- a process of which something is kept is one of those that there are
pub kept_within : (b : Listing) (p : ℕ) (k : Spot) → spot_at b p ≡ Some k → p < length b.spots
kept_within b p k is = elim (cases_lt p (length b.spots)) [
  | inl within ↦ within
  | inr past ↦ (let none : spot_at b p ≡ None = get_or_past b.spots p None past in let never : None ≡ Some k = sym none ∙ is in absurd (cc))
]

-- ---- the lists

module _ (b : Listing) (c p : ℕ) (matched : ListsMatchSpots b) (first : Some p ≡ head (list_at b c)) where
  first_listed : Among p (list_at b c)
  first_listed = Among-head (list_at b c) p (sym first)

  pub first_within : p < length b.spots
  first_within = in_range b matched c p first_listed

  pub first_is_kept : None ≡ spot_at b p → ⊥
  first_is_kept none = in_no_list b matched p (sym none) c first_listed

  pub first_taken : (kept : Spot) → Some kept ≡ spot_at b p → (head (list_at b c) ≡ Some p) × (spot_at b p ≡ Some (record { list = c; tag = kept.tag }))
  first_taken kept is =
      let own : option_map (λ (k : Spot). k.list) (Some kept) ≡ Some c = ap (option_map (λ (k : Spot). k.list)) is ∙ (matched.listed c p).0 first_listed in
      let list : kept.list ≡ c = cc in
      (sym first, sym is ∙ ap (λ n. Some (record { list = n; tag = kept.tag })) list)

-- a transaction is put into a list
module _ (b : Listing) (n : ℕ) (k : Key) (process : k.process < length b.spots) where
  put_at : spot_at (listed b n k) k.process ≡ Some (record { list = n; tag = k.generation })
  put_at = get_or-set_same (freed b k.process).spots k.process (Some (record { list = n; tag = k.generation })) None (omega (arith, process, length-set b.spots k.process None))

  pub listed_matches : ListsMatchSpots b → n < length b.lists → ListsMatchSpots (listed b n k)
  listed_matches matched list =
      given_matches (freed b k.process) (record { list = n; tag = k.generation }) k.process
      (rw (length-map b.lists (without k.process)) list) (omega (arith, process, length-set b.spots k.process None)) (none_here b.spots k.process)
      (freed_matches b k.process process matched)

-- who is set aside is of the connection still, and all others are whose they were
module _ (b : Listing) (c n p generation : ℕ) (half : n / 2 ≡ c) (was : spot_at b p ≡ Some (record { list = n; tag = generation })) (t : Key) where
  abbrev its_key : Key
  its_key = record { process = p; generation = generation }

  abbrev connection_by : ℕ → Option ℕ
  connection_by list = if nat_eq generation t.generation then Some (list / 2) else None

  aside_here : t.process ≡ p → connection_of (set_aside b c its_key) t ≡ connection_of b t
  aside_here here =
      let now : connection_of (set_aside b c its_key) t ≡ connection_by (aside_list c) =
      ap (λ o. connection_in o t.generation) (ap (spot_at (set_aside b c its_key)) here ∙ put_at b (aside_list c) its_key (kept_within b p (record { list = n; tag = generation }) was)) in
      let before : connection_of b t ≡ connection_by n = ap (λ o. connection_in o t.generation) (ap (spot_at b) here ∙ was) in
      now ∙ ap (λ m. if nat_eq generation t.generation then Some m else None) (half_aside c ∙ sym half) ∙ sym before

  pub aside_same : connection_of (set_aside b c its_key) t ≡ connection_of b t
  aside_same = elim (cases_eq t.process p) [ inl here ↦ aside_here here | inr apart ↦ listed_else b (aside_list c) its_key t apart ]

aside_by_same : (b : Listing) (k t : Key) (o : Option ℕ) → connection_of b k ≡ o → connection_of (aside_by b k o) t ≡ connection_of b t
aside_by_same b k t None is = refl
aside_by_same b k t (Some c) is = let at = kept b c k is in aside_same b c at.list k.process k.generation at.half at.at t

-- so each transaction is whose it was, when one is set aside
pub now_aside_same : (b : Listing) (k t : Key) → connection_of (now_aside b k) t ≡ connection_of b t
now_aside_same b k t = aside_by_same b k t (connection_of b k) refl

-- the list of a connection without its first process
without_first : (p : ℕ) (xs : List ℕ) → (Among p xs → ⊥) → without p (p ∷ xs) ≡ xs
without_first p xs absent = rw (eq-eqb p p refl) (without-absent p xs absent)

pub rest_of : (xs : List ℕ) (p : ℕ) → head xs ≡ Some p → NoRepeat xs → xs ≡ p ∷ without p xs
rest_of [] p is once = absurd (cc)
rest_of (x ∷ xs) p is once =
    let same : x ≡ p = cc in
    subst (λ q. x ∷ xs ≡ q ∷ without q (x ∷ xs)) same (ap (λ ys. x ∷ ys) (sym (without_first x xs once.0)))

pub list_after : (b : Listing) (c p : ℕ) → ListsMatchSpots b → head (list_at b c) ≡ Some p → list_at b c ≡ p ∷ list_at (freed b p) c
list_after b c p matched is = rest_of (list_at b c) p is (matched.once c) ∙ ap (λ ys. p ∷ ys) (sym (list_at-freed b p c))

-- nor does another one become one of the list by what is put into another list
pub list_aside : (b : Listing) (c p generation : ℕ) → ListsMatchSpots b → head (list_at b (open_list c)) ≡ Some p
    → list_at b (open_list c) ≡ p ∷ list_at (set_aside b c (record { process = p; generation = generation })) (open_list c)
list_aside b c p generation matched is =
    let other : open_list c ≢ aside_list c = λ same. absurd (omega (arith, same)) in
    list_after b (open_list c) p matched is
    ∙ ap (λ xs. p ∷ xs) (sym (get_or-set_other (freed b p).lists (aside_list c) (open_list c) (p ∷ list_at (freed b p) (aside_list c)) [] other))
