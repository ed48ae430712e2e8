-- Who owns what: the sizes and the owners after a resource is given or freed, and that the list of each process has what it owns by the state.
use Rattle.std.proofs.Common.{nat_eq, true, false, IsTrue, ◌≡◌, ◌≢◌, ℕ, ◌<◌, List, [], ◌∷◌, Option, Some, None, option_map, inl, inr, refl, ap, sym, ◌∙◌, arith, subst, map, set, length}
use Rattle.std.proofs.lemmas.Bool.{cases_Bool, and_parts, eq-eqb, eqb-true}
use Rattle.std.proofs.lemmas.List.{map-set}
use Rattle.std.proofs.Math.ListN.{get_or-map}
use Rattle.std.specs.List.{range_with_len}
use Rattle.std.specs.Option.{option_map_or}
use Rattle.std.specs.Prelude.{slice_index, slice_index_or}
use Rattle.mm_arena.specs.declared.key.Key.{Key}
use Rattle.mm_lists.specs.Members.{Among, NoRepeat, head}
use Rattle.mm_tagged_lists.specs.declared.spot.Spot.{Spot}
use Rattle.mm_tagged_lists.specs.TaggedLists.{Listing, ListsMatchSpots, FollowsInList, spot_at, list_at}
use Rattle.mm_tagged_lists.proofs.Lemmas.Walk.{Among-next, next-apart}
use Rattle.mm_tagged_lists.proofs.Lemmas.ListsMatchSpots.{in_range}
use Rattle.mm_rules.specs.declared.config.Config.{Config}
use Rattle.mm_table.specs.declared.records.Records.TheInside.{Inside}
use Rattle.mm_table.specs.declared.labels.ProcessLabels.{ProcessLabels}
use Rattle.mm_transactions.specs.Transactions.{Transactions}
use Rattle.mm_rules.specs.TableState.{TableState, is_live, owns, resources_of}
use Rattle.mm_rules.specs.Change.{hand_over_fits, vacate_fits}
use Rattle.mm_table.specs.private.Records.{FieldsAreSized, IsConsistent, key_of, owners_of, state_of_records}
use Rattle.mm_lists.proofs.Lemmas.Filter.{filter_gives, filter_keeps}
use Rattle.mm_lists.proofs.Lemmas.Among.{list_all_at, list_all_from}
use Rattle.mm_lists.proofs.Lemmas.Range.{among_range, among_range_gives}

-- ---- sizes

pub owned_sized : {c : Config} {s : Transactions} {ls : List ProcessLabels} {o : Listing} (new : Listing) → length new.lists ≡ length o.lists → length new.spots ≡ length o.spots → FieldsAreSized c s ls o → FieldsAreSized c s ls new
owned_sized new lists spots sizes = record {
  config = sizes.config;
  slots = sizes.slots;
  last_generation = sizes.last_generation;
  queues = sizes.queues;
  labels = sizes.labels;
  lists = lists ∙ sizes.lists;
  owners = spots ∙ sizes.owners;
}

-- ---- the owners

-- the state with another owner, or none, of a resource
pub owner_written : (t : Inside) (s : TableState) (r : ℕ) (o : Option Spot) (new : Listing) → state_of_records t ≡ s → new.spots ≡ set t.owned.spots r o
    → record (state_of_records t) { owners = owners_of new } ≡ record s { owners = set s.owners r (option_map key_of o) }
owner_written t s r o new is spots =
    ap (λ os. record (state_of_records t) { owners = os }) (ap (map (option_map key_of)) spots ∙ map-set (option_map key_of) t.owned.spots r o)
    ∙ ap (λ (u : TableState). record u { owners = set u.owners r (option_map key_of o) }) is

-- ---- the lists, by the state

-- The list of each process of a state has the resources that it owns.
pub record Listed (s : TableState) (o : Listing) : Type 0 where
  pub within : (n r : ℕ) → Among r (list_at o n) → r < s.config.resources
  pub mine : (n r : ℕ) → Among r (list_at o n) → IsTrue (owns s n r)
  pub all : (n r : ℕ) → IsTrue (owns s n r) → Among r (list_at o n)

owned_by : (o : Option Spot) (n : ℕ) → option_map (λ k. k.list) o ≡ Some n → option_map_or (λ k. nat_eq k.process n) (option_map key_of o) false ≡ true
owned_by None n e = let never : None ≡ Some n = e in cc
owned_by (Some k) n e = let one : Some k.list ≡ Some n = e in let same : k.list ≡ n = cc in eq-eqb k.list n same

by_owner : (o : Option Spot) (n : ℕ) → option_map_or (λ k. nat_eq k.process n) (option_map key_of o) false ≡ true → option_map (λ k. k.list) o ≡ Some n
by_owner None n e = let never : false ≡ true = e in cc
by_owner (Some k) n e = ap Some (eqb-true k.list n e)

pub listed : (t : Inside) (s : TableState) → IsConsistent t → state_of_records t ≡ s → ListsMatchSpots t.owned → Listed s t.owned
listed t s fits is matched =
    let owned : (n r : ℕ) → option_map_or (λ k. nat_eq k.process n) (option_map key_of (spot_at t.owned r)) false ≡ owns (state_of_records t) n r =
    λ n r. ap (λ o. option_map_or (λ (k : Key). nat_eq k.process n) o false) (sym (get_or-map (option_map key_of) t.owned.spots r None)) in
    subst (λ (u : TableState). Listed u t.owned) is (record {
      within = λ n r among. omega (arith, in_range t.owned matched n r among, fits.sizes.owners);
      mine = λ n r among. sym (owned n r) ∙ owned_by (spot_at t.owned r) n ((matched.listed n r).0 among);
      all = λ n r own. (matched.listed n r).1 (by_owner (spot_at t.owned r) n (owned n r ∙ own));
    })

pub below : (s : TableState) (n r : ℕ) → Among r (resources_of s n) → r < s.config.resources
below s n r among =
    omega (arith, (among_range_gives 0 s.config.resources r (filter_gives (owns s n) (range_with_len 0 s.config.resources) r among).0).1)

module _ (s : TableState) (owned : Listing) (lists : Listed s owned) (n : ℕ) where
  pub in_resources : (r : ℕ) → Among r (list_at owned n) → Among r (resources_of s n)
  in_resources r among =
      filter_keeps (owns s n) (range_with_len 0 s.config.resources) r (among_range 0 s.config.resources r (omega arith) (omega (arith, lists.within n r among))) (lists.mine n r among)

  pub of_resources : (r : ℕ) → Among r (resources_of s n) → Among r (list_at owned n)
  of_resources r among = lists.all n r (filter_gives (owns s n) (range_with_len 0 s.config.resources) r among).1

  -- what follows r in its list is owned as well, and is another resource
  pub follows : (r : ℕ) (next : Option ℕ) → NoRepeat (list_at owned n) → FollowsInList owned r next → Among r (resources_of s n)
      → (q : ℕ) → next ≡ Some q → Among q (resources_of s n) × (q ≢ r)
  follows r next once is_next among q is =
      let listed = of_resources r among in
      (in_resources q (Among-next owned n r next listed is_next q is), next-apart owned n r next listed is_next once q is)

  -- the limit, by the list
  pub some_past : (r : ℕ) → Among r (list_at owned n) → hand_over_fits s r ≡ false → vacate_fits s n ≡ false
  some_past r among past = elim (cases_Bool (vacate_fits s n)) [
    | inl all ↦ let never : true ≡ false = sym (list_all_at (hand_over_fits s) (resources_of s n) r all (in_resources r among)) ∙ past in cc
    | inr none ↦ none
  ]

  pub all_fit : ((r : ℕ) → Among r (list_at owned n) → IsTrue (hand_over_fits s r)) → vacate_fits s n ≡ true
  all_fit each = list_all_from (hand_over_fits s) (resources_of s n) (λ r among. each r (of_resources r among))

  pub none_left : head (list_at owned n) ≡ None → resources_of s n ≡ []
  none_left none = empty (resources_of s n) (λ r among. headless (list_at owned n) none r (of_resources r among))
    where
      headless : (rs : List ℕ) → head rs ≡ None → (r : ℕ) → Among r rs → ⊥
      headless [] e r among = among
      headless (q ∷ rs) e r among = let never : Some q ≡ None = e in cc

      empty : (rs : List ℕ) → ((r : ℕ) → Among r rs → ⊥) → rs ≡ []
      empty [] none = refl
      empty (r ∷ rs) none = absurd (none r (inl refl))

generation_is : (s : TableState) (k : Key) → IsTrue (is_live s k) → slice_index s.generations k.process ≡ k.generation
generation_is s k live =
    let parts = and_parts (slice_index_or s.live k.process false) (nat_eq (slice_index s.generations k.process) k.generation) live in
    eqb-true (slice_index s.generations k.process) k.generation parts.1

-- a process has one live key
pub one_key : (s : TableState) (j k : Key) → IsTrue (is_live s j) → IsTrue (is_live s k) → j.process ≡ k.process → j ≡ k
one_key s j k live_j live_k same =
    let generation : j.generation ≡ k.generation = sym (generation_is s j live_j) ∙ ap (slice_index s.generations) same ∙ generation_is s k live_k in
    ap (λ n. record { process = n; generation = j.generation }) same ∙ ap (λ g. record { process = k.process; generation = g }) generation
