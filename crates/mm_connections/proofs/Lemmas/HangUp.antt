-- A part of a hang-up leaves the transactions of other connections, and ends those of its own; the last one leaves none.
use Rattle.std.proofs.Common.{◌≡◌, ◌⊎◌, ◌-◌, ℕ, Bool, true, false, List, [], ◌∷◌, Option, Some, None, is_some, length, ◌/◌, if◌then◌else◌, slice_set, inl, inr, refl, sym, ap, subst, ◌∙◌, arith, length-set, get_or-set_same, take}
use Rattle.std.proofs.lemmas.Bool.{cases_eq, cases_lt, ne_eqb, or_parts, cases_Bool}
use Rattle.std.proofs.lemmas.List.{get_or_past}
use Rattle.std.proofs.lemmas.Option.{same_Some}
use Rattle.mm_arena.specs.declared.key.Key.{Key}
use Rattle.mm_lists.specs.Members.{Among, head, without}
use Rattle.mm_tagged_lists.specs.declared.spot.Spot.{Spot}
use Rattle.mm_tagged_lists.specs.TaggedLists.{Listing, ListsMatchSpots, spot_at, list_at, freed}
use Rattle.mm_tagged_lists.proofs.Lemmas.ListsMatchSpots.{in_its_list, list_at-freed}
use Rattle.mm_rules.specs.TableState.{is_live}
use Rattle.mm_manager.specs.LockState.{LockState, IsLawful}
use Rattle.mm_manager.specs.Calls.{Aborts}
use Rattle.mm_apart.proofs.Lemmas.Dead.{abort_keeps_dead, abort_own}
use Rattle.mm_apart.proofs.Lemmas.Left.{as_it_was, left_left}
use Rattle.mm_apart.proofs.Lemmas.Requests.{aborts, cancels}
use Rattle.mm_connections.specs.Apart.{StaysApart, HangUpEnds, HangUpLeavesNone, HangUpEndsLast}
use Rattle.mm_connections.specs.Begun.{aside_list, connection_in, connection_of, has_any, has_first, IsOf, open_list}
use Rattle.mm_connections.specs.Counts.{count_at}
use Rattle.mm_connections.specs.Hub.{Hub}
use Rattle.mm_connections.specs.Text.{Drops, DropsAll, EndsBy, EndsFront, HangsUp, SetsAside, SetsAllAside, long_first, names_at, to_end, to_set_aside}
use Rattle.mm_connections.proofs.Lemmas.Parts.{cancel_live, many_begun, many_stay}
use Rattle.mm_connections.proofs.Lemmas.Begun.{aside_same, freed_else, freed_here, half_aside, half_open, either_list, kept, of_spot}

-- ---- one after the other

pub same_stays : (old new : Hub) (t : Key) → new ≡ old → is_live old.manager.table t ≡ true → StaysApart old t new
same_stays old new t same live = record { left = as_it_was old.manager new.manager t live (ap (λ (h : Hub). h.manager) same); owner = ap (λ (h : Hub). connection_of h.begun t) same }

pub stays_then : (a b c : Hub) (t : Key) → StaysApart a t b → StaysApart b t c → StaysApart a t c
stays_then a b c t first second = record { left = left_left a.manager b.manager c.manager t first.left second.left; owner = second.owner ∙ first.owner }

-- ---- a transaction takes back its wait, and is set aside

module _ (c p : ℕ) (old new : Hub) (one : SetsAside c p old new) (t : Key) where
  abbrev its_key : Key
  its_key = record { process = p; generation = one.generation }

  aside_owner : connection_of new.begun t ≡ connection_of old.begun t
  aside_owner = ap (λ (h : Hub). connection_of h.begun t) one.rest ∙ aside_same old.begun c (open_list c) p one.generation (half_open c) one.was t

  aside_stays : IsLawful old.manager → is_live old.manager.table t ≡ true → ¬ IsOf old.begun c t → StaysApart old t new
  aside_stays lawful live other =
      let own : IsOf old.begun c its_key = of_spot old.begun c (open_list c) its_key one.was (half_open c) in
      record {
        left = cancels old.manager new.manager its_key t lawful one.lawful live (λ same. other (subst (IsOf old.begun c) same own)) one.answer one.did.cancels;
        owner = aside_owner;
      }

sets_owner : (c : ℕ) (ps : List ℕ) (old new : Hub) (t : Key) → SetsAllAside c ps old new → connection_of new.begun t ≡ connection_of old.begun t
sets_owner c [] old new t same = ap (λ (h : Hub). connection_of h.begun t) same
sets_owner c (p ∷ ps) old new t (mid, one, rest) = sets_owner c ps mid new t rest ∙ aside_owner c p old mid one t

sets_lawful : (c : ℕ) (ps : List ℕ) (old new : Hub) → SetsAllAside c ps old new → IsLawful old.manager → IsLawful new.manager
sets_lawful c [] old new same lawful = subst (λ (h : Hub). IsLawful h.manager) (sym same) lawful
sets_lawful c (p ∷ ps) old new (mid, one, rest) lawful = sets_lawful c ps mid new rest one.lawful

sets_stay : (c : ℕ) (ps : List ℕ) (old new : Hub) (t : Key) → SetsAllAside c ps old new → IsLawful old.manager → is_live old.manager.table t ≡ true → ¬ IsOf old.begun c t → StaysApart old t new
sets_stay c [] old new t same lawful live other = same_stays old new t same live
sets_stay c (p ∷ ps) old new t (mid, one, rest) lawful live other =
    let first = aside_stays c p old mid one t lawful live other in
    stays_then old mid new t first (sets_stay c ps mid new t rest one.lawful first.left.live (λ own. other (sym first.owner ∙ own)))

sets_live : (c : ℕ) (ps : List ℕ) (old new : Hub) (t : Key) → SetsAllAside c ps old new → is_live new.manager.table t ≡ is_live old.manager.table t
sets_live c [] old new t same = ap (λ (h : Hub). is_live h.manager.table t) same
sets_live c (p ∷ ps) old new t (mid, one, rest) =
    sets_live c ps mid new t rest ∙ cancel_live old.manager mid.manager (record { process = p; generation = one.generation }) t one.answer one.did.cancels

-- ---- a transaction ends

-- a transaction that is not of connection c stays whose it is, where the last one of the slot is of c
module _ (b : Listing) (c p generation : ℕ) (was : spot_at b p ≡ Some (record { list = aside_list c; tag = generation })) (t : Key) where
  not_here : spot_at b t.process ≡ Some (record { list = aside_list c; tag = generation }) → (generation ≡ t.generation → ⊥) → connection_of b t ≡ None
  not_here at apart = ap (λ o. connection_in o t.generation) at ∙ ap (λ (x : Bool). if x then Some (aside_list c / 2) else None) (ne_eqb generation t.generation apart)

  freed_same : ¬ IsOf b c t → connection_of (freed b p) t ≡ connection_of b t
  freed_same other = elim (cases_eq t.process p) [
    | inr apart ↦ freed_else b p t apart
    | inl here ↦
        let at : spot_at b t.process ≡ Some (record { list = aside_list c; tag = generation }) = ap (spot_at b) here ∙ was in
        let gone : connection_of (freed b p) t ≡ None = ap (λ q. connection_of (freed b q) t) (sym here) ∙ freed_here b t in
        elim (cases_eq generation t.generation) [
          | inl same ↦ absurd (other (of_spot b c (aside_list c) t (at ∙ ap (λ g. Some (record { list = aside_list c; tag = g })) same) (half_aside c)))
          | inr apart ↦ gone ∙ sym (not_here at apart)
        ]
  ]

module _ (c p : ℕ) (old : Hub) (out : List ℕ) (new : Hub) (one : Drops c p old out new) (t : Key) (lawful : IsLawful old.manager) where
  abbrev dropped_key : Key
  dropped_key = record { process = p; generation = one.generation }

  begun_after : connection_of new.begun t ≡ connection_of (freed old.begun p) t
  begun_after = ap (λ (h : Hub). connection_of h.begun t) one.rest

  drop_stays : is_live old.manager.table t ≡ true → ¬ IsOf old.begun c t → StaysApart old t new
  drop_stays live other =
      let own : IsOf old.begun c dropped_key = of_spot old.begun c (aside_list c) dropped_key one.was (half_aside c) in
      record {
        left = aborts old.manager new.manager dropped_key t lawful one.lawful live (λ same. other (subst (IsOf old.begun c) same own)) one.answer one.did.aborts;
        owner = begun_after ∙ freed_same old.begun c p one.generation one.was t other;
      }

  drop_dead : is_live old.manager.table t ≡ false → is_live new.manager.table t ≡ false
  drop_dead dead = abort_keeps_dead old.manager new.manager dropped_key lawful t one.answer one.did.aborts dead

  -- its own turn
  drop_own : IsOf old.begun c t → t.process ≡ p → is_live new.manager.table t ≡ false
  drop_own of_c here =
      let is = kept old.begun c t of_c in
      let both : Some (record { list = aside_list c; tag = one.generation }) ≡ Some (record { list = is.list; tag = t.generation }) = sym one.was ∙ ap (spot_at old.begun) (sym here) ∙ is.at in
      let tag : one.generation ≡ t.generation = ap (λ (k : Spot). k.tag) (same_Some (record { list = aside_list c; tag = one.generation }) (record { list = is.list; tag = t.generation }) both) in
      let same : dropped_key ≡ t = λ i. record { process = sym here i; generation = tag i } in
      abort_own old.manager new.manager t lawful one.answer (subst (λ k. Aborts old.manager k one.answer new.manager) same one.did.aborts)

drops_stay : (c left : ℕ) (ps : List ℕ) (old : Hub) (out : List ℕ) (new : Hub) (t : Key) → DropsAll c left ps old out new → IsLawful old.manager → is_live old.manager.table t ≡ true → ¬ IsOf old.begun c t → StaysApart old t new
drops_stay c left [] old out new t (none, same) lawful live other = same_stays old new t same live
drops_stay c left (p ∷ ps) old out new t (inl (long, none, same)) lawful live other = same_stays old new t same live
drops_stay c left (p ∷ ps) old out new t (inr (mid, first, rest, fits, one, later, text)) lawful live other =
    let stays = drop_stays c p old first mid one t lawful live other in
    stays_then old mid new t stays (drops_stay c (left - names_at old p) ps mid rest new t later one.lawful stays.left.live (λ own. other (sym stays.owner ∙ own)))

drops_dead : (c left : ℕ) (ps : List ℕ) (old : Hub) (out : List ℕ) (new : Hub) (t : Key) → DropsAll c left ps old out new → IsLawful old.manager → is_live old.manager.table t ≡ false → is_live new.manager.table t ≡ false
drops_dead c left [] old out new t (none, same) lawful dead = ap (λ (h : Hub). is_live h.manager.table t) same ∙ dead
drops_dead c left (p ∷ ps) old out new t (inl (long, none, same)) lawful dead = ap (λ (h : Hub). is_live h.manager.table t) same ∙ dead
drops_dead c left (p ∷ ps) old out new t (inr (mid, first, rest, fits, one, later, text)) lawful dead =
    drops_dead c (left - names_at old p) ps mid rest new t later one.lawful (drop_dead c p old first mid one t lawful dead)

drops_own : (c left : ℕ) (ps : List ℕ) (old : Hub) (out : List ℕ) (new : Hub) (t : Key) → DropsAll c left ps old out new → IsLawful old.manager → IsOf old.begun c t → (is_live new.manager.table t ≡ false) ⊎ IsOf new.begun c t
drops_own c left [] old out new t (none, same) lawful of_c = inr (ap (λ (h : Hub). connection_of h.begun t) same ∙ of_c)
drops_own c left (p ∷ ps) old out new t (inl (long, none, same)) lawful of_c = inr (ap (λ (h : Hub). connection_of h.begun t) same ∙ of_c)
drops_own c left (p ∷ ps) old out new t (inr (mid, first, rest, fits, one, later, text)) lawful of_c = elim (cases_eq t.process p) [
  | inl here ↦ inl (drops_dead c (left - names_at old p) ps mid rest new t later one.lawful (drop_own c p old first mid one t lawful of_c here))
  | inr apart ↦ drops_own c (left - names_at old p) ps mid rest new t later one.lawful (begun_after c p old first mid one t lawful ∙ freed_else old.begun p t apart ∙ of_c)
]

-- a list that is empty stays so
drops_none : (c left : ℕ) (ps : List ℕ) (old : Hub) (out : List ℕ) (new : Hub) (n : ℕ) → DropsAll c left ps old out new → list_at old.begun n ≡ [] → list_at new.begun n ≡ []
drops_none c left [] old out new n (none, same) empty = ap (λ (h : Hub). list_at h.begun n) same ∙ empty
drops_none c left (p ∷ ps) old out new n (inl (long, none, same)) empty = ap (λ (h : Hub). list_at h.begun n) same ∙ empty
drops_none c left (p ∷ ps) old out new n (inr (mid, first, rest, fits, one, later, text)) empty =
    drops_none c (left - names_at old p) ps mid rest new n later (ap (λ (h : Hub). list_at h.begun n) one.rest ∙ list_at-freed old.begun p n ∙ ap (without p) empty)

-- ---- or the first of them gives back names

ends_stay : (o : Option Key) (c : ℕ) (ps : List ℕ) (old : Hub) (out : List ℕ) (new : Hub) (t : Key) → EndsBy o c ps old out new → IsLawful old.manager → is_live old.manager.table t ≡ true → ¬ IsOf old.begun c t → StaysApart old t new
ends_stay None c ps old out new t drops lawful live other = drops_stay c 1024 ps old out new t drops lawful live other
ends_stay (Some k) c ps old out new t (own, gives) lawful live other = many_stay (Some c) k t 1024 old out new gives lawful live (λ same. other (subst (IsOf old.begun c) same own))

ends_own : (o : Option Key) (c : ℕ) (ps : List ℕ) (old : Hub) (out : List ℕ) (new : Hub) (t : Key) → EndsBy o c ps old out new → IsLawful old.manager → IsOf old.begun c t → (is_live new.manager.table t ≡ false) ⊎ IsOf new.begun c t
ends_own None c ps old out new t drops lawful of_c = drops_own c 1024 ps old out new t drops lawful of_c
ends_own (Some k) c ps old out new t (own, gives) lawful of_c = inr (ap (λ b. connection_of b t) (many_begun (Some c) k t 1024 old out new gives) ∙ of_c)

ends_none : (o : Option Key) (c : ℕ) (ps : List ℕ) (old : Hub) (out : List ℕ) (new : Hub) (n : ℕ) → EndsBy o c ps old out new → list_at old.begun n ≡ [] → list_at new.begun n ≡ []
ends_none None c ps old out new n drops empty = drops_none c 1024 ps old out new n drops empty
ends_none (Some k) c ps old out new n (own, gives) empty = ap (λ b. list_at b n) (many_begun (Some c) k k 1024 old out new gives) ∙ empty

-- ---- and the count is cleared, if none is left

no_first : (xs : List ℕ) (p : ℕ) → is_some (head xs) ≡ false → Among p xs → ⊥
no_first [] p none among = absurd among
no_first (x ∷ xs) p none among = absurd (cc)

empty_of : (xs : List ℕ) → is_some (head xs) ≡ false → xs ≡ []
empty_of [] none = refl
empty_of (x ∷ xs) none = absurd (cc)

has_no_first : (b : Listing) (n p : ℕ) → has_first b n ≡ false → Among p (list_at b n) → ⊥
has_no_first b n p none among = no_first (list_at b n) p none among

zero_at : (counts : List ℕ) (c : ℕ) → count_at (slice_set counts c 0) c ≡ 0
zero_at counts c = elim (cases_lt c (length counts)) [
  | inl within ↦ get_or-set_same counts c 0 0 within
  | inr past ↦ get_or_past (slice_set counts c 0) c 0 (omega (arith, past, length-set counts c 0))
]

closed_manager : (c : ℕ) (h : Hub) (b : Bool) → (if b then h else record h { counts = slice_set h.counts c 0 }).manager ≡ h.manager
closed_manager c h true = refl
closed_manager c h false = refl

closed_begun : (c : ℕ) (h : Hub) (b : Bool) → (if b then h else record h { counts = slice_set h.counts c 0 }).begun ≡ h.begun
closed_begun c h true = refl
closed_begun c h false = refl

module _ (c : ℕ) (old new : Hub) (out : List ℕ) (did : HangsUp c old out new) where
  manager_last : new.manager ≡ did.last.manager
  manager_last = ap (λ (h : Hub). h.manager) did.rest ∙ closed_manager c did.last (has_any did.last.begun c)

  begun_last : new.begun ≡ did.last.begun
  begun_last = ap (λ (h : Hub). h.begun) did.rest ∙ closed_begun c did.last (has_any did.last.begun c)

  module _ (t : Key) (lawful : IsLawful old.manager) where
    pub hangs_apart : is_live old.manager.table t ≡ true → ¬ IsOf old.begun c t → StaysApart old t new
    hangs_apart live other =
        let first = sets_stay c (to_set_aside old.begun c) old did.aside t did.sets lawful live other in
        let after = sets_lawful c (to_set_aside old.begun c) old did.aside did.sets lawful in
        let ps = to_end did.aside.begun c in
        let second = ends_stay (long_first did.aside ps) c ps did.aside did.told did.last t did.ends after first.left.live (λ own. other (sym first.owner ∙ own)) in
        let both = stays_then old did.aside did.last t first second in
        record {
          left = left_left old.manager did.last.manager new.manager t both.left (as_it_was did.last.manager new.manager t both.left.live manager_last);
          owner = ap (λ b. connection_of b t) begun_last ∙ both.owner;
        }

    hangs_own : IsOf old.begun c t → (is_live new.manager.table t ≡ false) ⊎ IsOf new.begun c t
    hangs_own of_c =
        let after = sets_lawful c (to_set_aside old.begun c) old did.aside did.sets lawful in
        let ps = to_end did.aside.begun c in
        elim (ends_own (long_first did.aside ps) c ps did.aside did.told did.last t did.ends after (sets_owner c (to_set_aside old.begun c) old did.aside t did.sets ∙ of_c)) [
          | inl dead ↦ inl (ap (λ (m : LockState). is_live m.table t) manager_last ∙ dead)
          | inr own ↦ inr (ap (λ b. connection_of b t) begun_last ∙ own)
        ]

  -- nothing is kept of connection c
  none_kept : ListsMatchSpots new.begun → has_any did.last.begun c ≡ false → (t : Key) → ¬ IsOf new.begun c t
  none_kept lists none t of_c =
      let is = kept new.begun c t of_c in
      let empty = or_parts (has_first new.begun (open_list c)) (has_first new.begun (aside_list c)) (ap (λ b. has_any b c) begun_last ∙ none) in
      let among = in_its_list new.begun lists t.process (record { list = is.list; tag = t.generation }) is.at in
      elim (either_list is.list c is.half) [
        | inl first ↦ has_no_first new.begun (open_list c) t.process empty.0 (subst (λ n. Among t.process (list_at new.begun n)) first among)
        | inr second ↦ has_no_first new.begun (aside_list c) t.process empty.1 (subst (λ n. Among t.process (list_at new.begun n)) second among)
      ]

  none_counted : has_any did.last.begun c ≡ false → count_at new.counts c ≡ 0
  none_counted none =
      let over : new ≡ record did.last { counts = slice_set did.last.counts c 0 } = did.rest ∙ ap (λ (b : Bool). if b then did.last else record did.last { counts = slice_set did.last.counts c 0 }) none in
      ap (λ (h : Hub). count_at h.counts c) over ∙ zero_at did.last.counts c

-- where one is left that was not set aside, nothing ended
none_ended : (c : ℕ) (aside : Hub) (told : List ℕ) (last : Hub) → EndsFront c (to_end aside.begun c) aside told last → has_first last.begun (open_list c) ≡ true → last ≡ aside
none_ended c aside told last ends more = elim (cases_Bool (has_first aside.begun (open_list c))) [
  | inl left ↦
      let none : to_end aside.begun c ≡ [] = ap (λ (b : Bool). if b then [] else take 256 (list_at aside.begun (aside_list c))) left in
      (subst (λ ps. EndsFront c ps aside told last) none ends).1
  | inr over ↦
      let ps = to_end aside.begun c in
      let empty = ends_none (long_first aside ps) c ps aside told last (open_list c) ends (empty_of (list_at aside.begun (open_list c)) over) in
      let never : true ≡ false = sym more ∙ ap (λ xs. is_some (head xs)) empty in
      absurd (cc)
]

pub hang_up_ends_last : HangUpEndsLast
hang_up_ends_last c old new out did more t live =
    let same = none_ended c did.aside did.told did.last did.ends (sym (ap (λ b. has_first b (open_list c)) (begun_last c old new out did)) ∙ more) in
    ap (λ (m : LockState). is_live m.table t) (manager_last c old new out did ∙ ap (λ (h : Hub). h.manager) same) ∙ sets_live c (to_set_aside old.begun c) old did.aside t did.sets ∙ live

pub hang_up_ends : HangUpEnds
hang_up_ends c old new out did lawful t of_c = hangs_own c old new out did t lawful.manager of_c

pub hang_up_leaves_none : HangUpLeavesNone
hang_up_leaves_none c old new out did none = record { none = none_kept c old new out did did.lawful.lists none; count = none_counted c old new out did none }
