-- How each change of a slot keeps the layout, and what a contract sees of it.
use Rattle.std.proofs.Common.{true, false, nat_lt, lt-ltb, le-ltb, ◌≡◌, ◌≢◌, ℕ, suc, ◌+◌, ◌-◌, ◌<◌, ◌≤◌, List, [], ◌∷◌, ◌++◌, Option, Some, None, is_some, cond, count_by, map, length, get_or, set, slice_get, refl, sym, ap, subst, ◌∙◌, inl, inr, arith, length-set}
use Rattle.std.specs.List.{AllByRecursion, range_with_len}
use Rattle.std.proofs.lemmas.Bool.{cases_lt}
use Rattle.std.proofs.lemmas.List.{map-set, length-map, get_or-map}
use Rattle.std.proofs.lemmas.List.Elements.{All-set, All-get_or}
use Rattle.std.proofs.lemmas.List.Sums.{sum_by-set, count_by-le-length}
use Rattle.std.proofs.lemmas.Option.{slice_get_within, get_or_from_slice_get, slice_get_read}
use Rattle.mm_lists.proofs.Lemmas.Set.{slice_get-set_same, slice_get-set_other}
use Rattle.mm_arena.specs.declared.slot.Slot.{Slot}
use Rattle.mm_arena.specs.declared.slot.State.TheVariants.{Free, Live, Retired}
use Rattle.mm_arena.specs.declared.key.Key.{Key}
use Rattle.mm_arena.specs.Slots.{Slots, Place, never_used, place_at, value_under, lookup, IsLive, with_value, next_key, inserted, vacated, AddsKey, DropsKey}
use Rattle.mm_arena.specs.private.Layout.{Fields, place_of, place_in, link_of, walk, seen, HasFree, IsChain, IsInLimit, IsLaidOut}
use Rattle.mm_arena.proofs.Lemmas.Updates.{value_under-same, IsLive-within, generation_at_value, inserted-first, AddsKey-first, DropsKey-freed, DropsKey-retired, Holds}
use Rattle.mm_arena.proofs.Lemmas.IsChain.{IsChain-set, walk-IsChain, IsChain-off, IsChain-some, IsChain-none}

-- two views with the same parts
pub same_slots : {T : Type 0} (places other : List (Place T)) (free rest : List ℕ) (limit : ℕ) → places ≡ other → free ≡ rest → ◌≡◌ {A = Slots T} (record { places = places; free = free; limit = limit }) (record { places = other; free = rest; limit = limit })
same_slots places other free rest limit p q = λ i. record { places = p i; free = q i; limit = limit }

module _ {T : Type 0} where
  -- how many slots have a value
  abbrev pub live_slots : List (Slot T) → ℕ
  live_slots slots = count_by (λ place. is_some place.value) (map place_of slots)

  live_slots-set : (slots : List (Slot T)) (i : ℕ) (old new : Slot T) → slice_get slots i ≡ Some old → live_slots (set slots i new) + cond (is_some (place_of old).value) 1 0 ≡ live_slots slots + cond (is_some (place_of new).value) 1 0
  live_slots-set slots i old new found =
      let read : get_or (map place_of slots) i never_used ≡ place_of old =
      get_or-map place_of slots i old never_used (slice_get_within slots i old found) ∙ ap place_of (get_or_from_slice_get slots i old old found) in
      let counted = sum_by-set (λ place. cond (is_some place.value) 1 0) (map place_of slots) i (place_of new) never_used (omega (arith, slice_get_within slots i old found, length-map slots place_of)) in
      rw (map-set place_of slots i new, ← read) counted

  module _ (f : Fields T) (laid_out : IsLaidOut f) where
    walked : walk f.slots (length f.slots) f.newest ≡ laid_out.freed
    walked = walk-IsChain f.slots f.unused laid_out.freed f.newest (length f.slots) laid_out.linked (omega (arith, laid_out.room))

    -- what a contract sees, by the list of freed processes
    pub seen-freed : (freed : List ℕ) → laid_out.freed ≡ freed → seen f ≡ record { places = map place_of f.slots; free = freed ++ range_with_len f.unused (length f.slots - f.unused); limit = f.limit }
    seen-freed freed is = same_slots _ _ _ _ f.limit refl (ap (λ l. l ++ range_with_len f.unused (length f.slots - f.unused)) (walked ∙ is))

    -- the slot that was freed last is inside, and free
    pub newest_is_free : (i : ℕ) → f.newest ≡ Some i → (i < length f.slots) × HasFree (slice_get f.slots i)
    newest_is_free i first =
        let start = IsChain-some f.slots f.unused i laid_out.freed f.newest first laid_out.linked in
        (omega (arith, start.link.used, laid_out.within), start.link.free)

    -- with no freed slot and no untouched one none is free
    pub none_free : f.newest ≡ None → f.unused ≡ length f.slots → (seen f).free ≡ []
    none_free none full =
        let left : length f.slots - f.unused ≡ 0 = omega arith in
        rw (walked ∙ IsChain-none f.slots f.unused laid_out.freed f.newest none laid_out.linked, left) refl

    -- the slot that a read of the slots gave
    module _ (i : ℕ) (old : Slot T) (found : slice_get f.slots i ≡ Some old) where
      inside : i < length f.slots
      inside = slice_get_within f.slots i old found

      limited : IsInLimit f.limit old
      limited =
          subst (IsInLimit f.limit) (get_or_from_slice_get f.slots i old old found)
          (All-get_or (IsInLimit f.limit) f.slots i old inside laid_out.generations)

      place_at-seen : place_at (seen f) i ≡ place_of old
      place_at-seen = get_or-map place_of f.slots i old never_used inside ∙ ap place_of (get_or_from_slice_get f.slots i old old found)

      -- a write at a process that is used from now on, with the links and the count that it leaves
      IsLaidOut-set : (new : Slot T) (newest : Option ℕ) (unused live : ℕ) → f.unused ≤ unused → i < unused → unused ≤ length f.slots → live + cond (is_some (place_of old).value) 1 0 ≡ f.live + cond (is_some (place_of new).value) 1 0 → IsInLimit f.limit new → (freed : List ℕ) → IsChain (set f.slots i new) unused freed newest → live + length freed ≤ length f.slots → IsLaidOut (record { slots = set f.slots i new; newest = newest; unused = unused; live = live; limit = f.limit })
      IsLaidOut-set new newest unused live wider below within counted in_limit freed linked room =
          let same_length = length-set f.slots i new in
          record {
            freed = freed;
            linked = linked;
            untouched = λ process past short.
                rw (slice_get-set_other f.slots process i new (λ same. omega arith))
                (laid_out.untouched process (omega arith) (omega arith));
            within = omega arith;
            counted = omega (arith, laid_out.counted, live_slots-set f.slots i old new found);
            room = omega arith;
            generations = All-set (IsInLimit f.limit) f.slots i new in_limit laid_out.generations;
            size = omega (arith, laid_out.size);
          }

      -- what a contract sees of it
      seen-set : (new : Slot T) (newest : Option ℕ) (unused live : ℕ) (freed : List ℕ) (place : Place T) → IsChain (set f.slots i new) unused freed newest → length freed ≤ length f.slots → place_of new ≡ place → seen (record { slots = set f.slots i new; newest = newest; unused = unused; live = live; limit = f.limit }) ≡ record { places = set (map place_of f.slots) i place; free = freed ++ range_with_len unused (length f.slots - unused); limit = f.limit }
      seen-set new newest unused live freed place linked short is =
          let links = walk-IsChain (set f.slots i new) unused freed newest (length (set f.slots i new)) linked (omega (arith, length-set f.slots i new)) in
          same_slots _ _ _ _ f.limit
          (map-set place_of f.slots i new ∙ ap (set (map place_of f.slots) i) is)
          (λ j. links j ++ range_with_len unused (length-set f.slots i new j - unused))

  -- what an insert does: a contract sees f, and then g
  pub record Inserts (f g : Fields T) (i generation : ℕ) (value : T) : Type 0 where
    pub laid_out : IsLaidOut g
    pub key : next_key (seen f) ≡ Some (record { process = i; generation = generation })
    pub shows : seen g ≡ inserted (seen f) value
    pub added : AddsKey (seen f) (inserted (seen f) value) (record { process = i; generation = generation }) value

  module _ (f : Fields T) (laid_out : IsLaidOut f) (i generation : ℕ) (value : T) (next : Option ℕ) (found : slice_get f.slots i ≡ Some (record { generation = generation; state = Free next })) where
    was_free : Slot T
    was_free = record { generation = generation; state = Free next }

    abbrev filled_slot : Slot T
    filled_slot = record { generation = generation; state = Live value }

    -- into the first free process, where the links that are left and the count are known
    Inserts-first : (newest : Option ℕ) (unused : ℕ) (freed rest : List ℕ) → f.unused ≤ unused → i < unused → unused ≤ length f.slots → IsChain (set f.slots i filled_slot) unused freed newest → f.live + 1 + length freed ≤ length f.slots → (seen f).free ≡ i ∷ rest → freed ++ range_with_len unused (length f.slots - unused) ≡ rest → Inserts f (record { slots = set f.slots i filled_slot; newest = newest; unused = unused; live = f.live + 1; limit = f.limit }) i generation value
    Inserts-first newest unused freed rest wider below within linked room free left =
        let place = place_at-seen f laid_out i _ found in
        let limits = limited f laid_out i _ found in
        record {
          laid_out = IsLaidOut-set f laid_out i _ found filled_slot newest unused (f.live + 1) wider below within (omega arith) limits freed linked room;
          key = rw free (ap (λ p. Some (record { process = i; generation = p.generation })) place);
          shows =
              seen-set f laid_out i _ found filled_slot newest unused (f.live + 1) freed _ linked (omega arith) refl
              ∙ same_slots _ _ _ _ f.limit refl left
              ∙ sym (inserted-first (seen f) i generation rest value free place);
          added = AddsKey-first (seen f) i generation rest value free (omega (arith, inside f laid_out i _ found, length-map f.slots place_of)) place limits.0 limits.1;
        }

    -- into the slot that was freed last
    fill_freed : f.newest ≡ Some i → Inserts f (record f { slots = set f.slots i filled_slot; newest = next; live = f.live + 1 }) i generation value
    fill_freed first =
        let start = IsChain-some f.slots f.unused i laid_out.freed f.newest first laid_out.linked in
        let chain = IsChain-set f.slots f.unused i filled_slot start.later next start.link.once (subst (IsChain f.slots f.unused start.later) (ap link_of found) start.chain) in
        let shorter : length laid_out.freed ≡ suc (length start.later) = ap length start.split in
        Inserts-first next f.unused start.later _ (omega arith) start.link.used laid_out.within chain (omega (arith, laid_out.room))
        (ap (λ s. s.free) (seen-freed f laid_out (i ∷ start.later) start.split)) refl

    -- into the first slot that was never used, where none is freed
    fill_untouched : f.newest ≡ None → i ≡ f.unused → Inserts f (record f { slots = set f.slots i filled_slot; unused = f.unused + 1; live = f.live + 1 }) i generation value
    fill_untouched none here =
        let within = inside f laid_out i _ found in
        let fits = count_by-le-length (λ place. is_some place.value) (map place_of (set f.slots i filled_slot)) in
        let room : f.live + 1 + 0 ≤ length f.slots =
        omega (arith, fits, laid_out.counted, live_slots-set f.slots i (record { generation = generation; state = Free next }) filled_slot found, length-map (set f.slots i filled_slot) place_of, length-set f.slots i filled_slot) in
        let left : length f.slots - f.unused ≡ suc (length f.slots - (f.unused + 1)) = omega arith in
        let rest = range_with_len (f.unused + 1) (length f.slots - (f.unused + 1)) in
        Inserts-first f.newest (f.unused + 1) [] rest (omega arith) (omega arith) (omega arith) none room
        (ap (λ s. s.free) (seen-freed f laid_out [] (IsChain-none f.slots f.unused laid_out.freed f.newest none laid_out.linked))
        ∙ ap (range_with_len f.unused) left ∙ ap (λ k. k ∷ rest) (sym here))
        refl

  module _ (f : Fields T) (laid_out : IsLaidOut f) (i : ℕ) (value : T) (old new : Slot T) (next : Option ℕ) (read : old ≡ get_or f.slots i old) (link : old.state ≡ Free next) (filled : new ≡ record old { state = Live value }) where
    read_slot : i < length f.slots → slice_get f.slots i ≡ Some (record { generation = old.generation; state = Free next })
    read_slot within =
        slice_get_read f.slots (length f.slots) i old refl within read
        ∙ ap (λ state. Some (record { generation = old.generation; state = state })) link

    pub Inserts-freed : f.newest ≡ Some i → Inserts f (record f { slots = set f.slots i new; newest = next; live = f.live + 1 }) i new.generation value
    Inserts-freed first =
        rw filled (fill_freed f laid_out i old.generation value next (read_slot (newest_is_free f laid_out i first).0) first)

    pub Inserts-untouched : f.newest ≡ None → i ≡ f.unused → f.unused < length f.slots → Inserts f (record f { slots = set f.slots i new; unused = f.unused + 1; live = f.live + 1 }) i new.generation value
    Inserts-untouched none here within =
        rw filled (fill_untouched f laid_out i old.generation value next (read_slot (omega arith)) none here)

  -- what a remove does: a contract sees f, and then g
  pub record Removes (f g : Fields T) (key : Key) : Type 0 where
    pub laid_out : IsLaidOut g
    pub shows : seen g ≡ vacated (seen f) key
    pub dropped : DropsKey (seen f) (vacated (seen f) key) key

  -- what a write through a `&mut` to a value does
  pub record Rewrites (f g : Fields T) (key : Key) (last : T) : Type 0 where
    pub laid_out : IsLaidOut g
    pub shows : seen g ≡ with_value (seen f) key last

  -- the slot of a live key, as a read of the slots gave it
  module _ (f : Fields T) (laid_out : IsLaidOut f) (key : Key) (is_live : IsLive (seen f) key) (value : T) (old : Slot T) (read : old ≡ get_or f.slots key.process old) (taken : old.state ≡ Live value) where
    within : key.process < length f.slots
    within = omega (arith, IsLive-within (seen f) key is_live, length-map f.slots place_of)

    found : slice_get f.slots key.process ≡ Some old
    found = slice_get_read f.slots (length f.slots) key.process old refl within read

    is_taken : HasFree (slice_get f.slots key.process) → ⊥
    is_taken free = rw (found, taken) at free

    place : place_at (seen f) key.process ≡ record { generation = old.generation; value = Some value }
    place = place_at-seen f laid_out key.process old found ∙ ap (λ state. place_in old.generation state) taken

    same : old.generation ≡ key.generation
    same = generation_at_value key.generation (record { generation = old.generation; value = Some value }) (rw place at is_live)

    holds : Holds (seen f) key value
    holds = record {
      within = IsLive-within (seen f) key is_live;
      place = place ∙ ap (λ generation. record { generation = generation; value = Some value }) same;
    }

    had_value : is_some (place_of old).value ≡ true
    had_value = ap (λ state. is_some (place_in old.generation state).value) taken

    -- the slot was used
    used : key.process < f.unused
    used =
        elim (cases_lt key.process f.unused) [
          | inl below ↦ below
          | inr past ↦ absurd (is_taken (laid_out.untouched key.process past within))
        ]

    -- and is not among the freed ones
    off : AllByRecursion (λ other. other ≢ key.process) laid_out.freed
    off = IsChain-off f.slots f.unused key.process is_taken laid_out.freed f.newest laid_out.linked

    -- one live key fewer
    one_fewer : (f.live - 1) + cond (is_some (place_of old).value) 1 0 ≡ f.live + 0
    one_fewer =
        let emptied : Slot T = record { generation = old.generation; state = Retired } in
        let counted = rw had_value at (live_slots-set f.slots key.process old emptied found) in
        rw had_value (omega (arith, laid_out.counted, counted))

    -- the slot is freed, and comes first
    pub Removes-freed : (new : Slot T) → old.generation < f.limit → new ≡ record { generation = old.generation + 1; state = Free f.newest } → Removes f (record f { slots = set f.slots key.process new; newest = Some key.process; live = f.live - 1 }) key
    Removes-freed new below emptied = rw emptied (
        let slot : Slot T = record { generation = old.generation + 1; state = Free f.newest } in
        let freed = key.process ∷ laid_out.freed in
        let there = slice_get-set_same f.slots key.process slot within in
        let linked : IsChain (set f.slots key.process slot) f.unused freed (Some key.process) = (
          refl,
          record { free = rw there tt; used = used; once = off },
          rw there (IsChain-set f.slots f.unused key.process slot laid_out.freed f.newest off laid_out.linked),
        ) in
        let room : (f.live - 1) + length freed ≤ length f.slots = omega (arith, laid_out.room, rw had_value at one_fewer) in
        let test : nat_lt key.generation f.limit ≡ true = lt-ltb key.generation f.limit (omega (arith, same)) in
        record {
          laid_out = IsLaidOut-set f laid_out key.process old found slot (Some key.process) f.unused (f.live - 1) (omega arith) used laid_out.within one_fewer (omega arith, omega arith) freed linked room;
          shows = rw test (
              seen-set f laid_out key.process old found slot (Some key.process) f.unused (f.live - 1) freed (record { generation = key.generation + 1; value = None }) linked (omega (arith, room)) (ap (λ generation. record { generation = generation + 1; value = None }) same)
              ∙ same_slots _ _ _ _ f.limit refl (ap (λ l. key.process ∷ l) (ap (λ s. s.free) (sym (seen-freed f laid_out laid_out.freed refl)))));
          dropped = rw test (DropsKey-freed (seen f) key value holds);
        })

    -- the slot is retired
    pub Removes-retired : (new : Slot T) → f.limit ≤ old.generation → new ≡ record old { state = Retired } → Removes f (record f { slots = set f.slots key.process new; live = f.live - 1 }) key
    Removes-retired new last retired = rw retired (
        let slot : Slot T = record { generation = old.generation; state = Retired } in
        let linked = IsChain-set f.slots f.unused key.process slot laid_out.freed f.newest off laid_out.linked in
        let test : nat_lt key.generation f.limit ≡ false = le-ltb key.generation f.limit (omega (arith, same)) in
        record {
          laid_out = IsLaidOut-set f laid_out key.process old found slot f.newest f.unused (f.live - 1) (omega arith) used laid_out.within one_fewer (limited f laid_out key.process old found) laid_out.freed linked (omega (arith, laid_out.room));
          shows = rw test (
              seen-set f laid_out key.process old found slot f.newest f.unused (f.live - 1) laid_out.freed (record { generation = key.generation; value = None }) linked (omega (arith, laid_out.room)) (ap (λ generation. record { generation = generation; value = None }) same)
              ∙ same_slots _ _ _ _ f.limit refl (ap (λ s. s.free) (sym (seen-freed f laid_out laid_out.freed refl))));
          dropped = rw test (DropsKey-retired (seen f) key value holds);
        })

    -- the value that is lent
    pub lookup-seen : lookup (seen f) key ≡ Some value
    lookup-seen = ap (value_under key.generation) holds.place ∙ value_under-same key.generation (Some value)

    -- the slot gets another value
    pub Rewrites-live : (last : T) → Rewrites f (record f { slots = set f.slots key.process (record { generation = old.generation; state = Live last }) }) key last
    Rewrites-live last =
        let slot : Slot T = record { generation = old.generation; state = Live last } in
        let linked = IsChain-set f.slots f.unused key.process slot laid_out.freed f.newest off laid_out.linked in
        record {
          laid_out = IsLaidOut-set f laid_out key.process old found slot f.newest f.unused f.live (omega arith) used laid_out.within (rw had_value refl) (limited f laid_out key.process old found) laid_out.freed linked laid_out.room;
          shows =
              seen-set f laid_out key.process old found slot f.newest f.unused f.live laid_out.freed (record { generation = key.generation; value = Some last }) linked (omega (arith, laid_out.room)) (ap (λ generation. record { generation = generation; value = Some last }) same)
              ∙ same_slots _ _ _ _ f.limit refl (ap (λ s. s.free) (sym (seen-freed f laid_out laid_out.freed refl)));
        }
