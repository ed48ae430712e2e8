-- The room for the lists of a call, and what is listed.
use Rattle.std.proofs.Common.{◌≡◌, ◌↔◌, ◌<◌, ◌||◌, ℕ, Bool, true, false, List, length, filter, replicate, nat_eq, Option, Some, None, slice_index_or, vec_capacity, IsTrue, inl, inr, refl, sym, ap, ◌∙◌, arith}
use Rattle.std.specs.Prelude.{slice_index}
use Rattle.std.specs.Option.{option_map_or}
use Rattle.std.specs.List.{range_with_len, AllByRecursion}
use Rattle.std.proofs.lemmas.Bool.{cases_Bool, cases_lt, and_parts, eqb-true, eq-eqb}
use Rattle.std.proofs.lemmas.List.{length-replicate, get_or-replicate, get_or_past}
use Rattle.mm_arena.specs.declared.key.Key.{Key}
use Rattle.mm_lists.specs.Members.{Among}
use Rattle.mm_lists.proofs.Lemmas.Among.{all_from}
use Rattle.mm_lists.proofs.Lemmas.Filter.{filter_gives, filter_keeps}
use Rattle.mm_lists.proofs.Lemmas.Range.{among_range}
use Rattle.mm_bit_set.specs.BitSet.{has, members}
use Rattle.mm_rules.specs.declared.config.Config.{Config}
use Rattle.mm_rules.specs.TableState.{TableState, is_live, owner_of, owns}
use Rattle.mm_rules.specs.Laws.{Laws}
use Rattle.mm_settled.specs.declared.lists.Lists.{Lists}
use Rattle.mm_settled.specs.private.Lists.{Fits, is_listed, is_key, owns_key, owned_by_key, sorted}
use Rattle.mm_settled.proofs.Lemmas.Ends.{owner_in_range}
use Rattle.mm_settled.proofs.Lemmas.Numbers.{filter_agree_on, is_listed_among, among_is_listed}

-- ---- room

pub record HasSameRoom (l m : Lists) : Type 0 where
  pub granted : vec_capacity m.granted ≡ vec_capacity l.granted
  pub woken : vec_capacity m.woken ≡ vec_capacity l.woken
  pub owned : vec_capacity m.owned ≡ vec_capacity l.owned
  pub resources : m.resources ≡ l.resources

pub fits_again : (c d : Config) (l m : Lists) → d ≡ c → Fits c l → HasSameRoom l m → Fits d m
fits_again c d l m same fits room =
    let processes = ap (λ (e : Config). e.processes) same in
    let resources = ap (λ (e : Config). e.resources) same in
    record {
      granted = omega (arith, fits.granted, room.granted, processes);
      woken = omega (arith, fits.woken, room.woken, processes);
      owned = omega (arith, fits.owned, room.owned, resources);
      resources = room.resources ∙ fits.resources ∙ ap (λ n. replicate n false) (sym resources);
    }

-- ---- what is listed

none_in : (count n : ℕ) → has (replicate count false) n ≡ false
none_in count n = elim (cases_lt n count) [
  | inl within ↦ get_or-replicate count n false false within
  | inr past ↦ get_or_past (replicate count false) n false (omega (arith, past, length-replicate count false))
]

-- a set that was empty has what was added to it
has_added : (count : ℕ) (none set : List Bool) (ns : List ℕ) → none ≡ replicate count false → ((n : ℕ) → has set n ≡ (has none n || is_listed ns n)) → (n : ℕ) → has set n ≡ is_listed ns n
has_added count none set ns empty added n = added n ∙ ap (λ b. b || is_listed ns n) (ap (λ s. has s n) empty ∙ none_in count n)

-- ---- what a key owns

is_key_true : (k h : Key) → is_key k h ≡ true → h ≡ k
is_key_true k h same =
    let parts = and_parts (nat_eq h.process k.process) (nat_eq h.generation k.generation) same in
    ap (λ n. record { process = n; generation = h.generation }) (eqb-true h.process k.process parts.0) ∙ ap (λ g. record { process = k.process; generation = g }) (eqb-true h.generation k.generation parts.1)

is_key_itself : (k : Key) → is_key k k ≡ true
is_key_itself k = rw (eq-eqb k.process k.process refl, eq-eqb k.generation k.generation refl) refl

owns_key_by : (k : Key) (o : Option Key) → option_map_or (is_key k) o false ≡ true → o ≡ Some k
owns_key_by k None mine = absurd (cc)
owns_key_by k (Some h) mine = ap Some (is_key_true k h mine)

owns_key_gives : (s : TableState) (k : Key) (r : ℕ) → owns_key s k r ≡ true → owner_of s r ≡ Some k
owns_key_gives s k r mine = owns_key_by k (owner_of s r) mine

owned_test : (s : TableState) (k : Key) (ns : List ℕ) → ((r : ℕ) → Among r ns ↔ (owner_of s r ≡ Some k)) → (r : ℕ) → is_listed ns r ≡ owns_key s k r
owned_test s k ns listed r = elim (cases_Bool (owns_key s k r)) [
  | inl mine ↦ among_is_listed ns r ((listed r).1 (owns_key_gives s k r mine)) ∙ sym mine
  | inr other ↦ elim (cases_Bool (is_listed ns r)) [
    | inr out ↦ out ∙ sym other
    | inl found ↦
        let owner : owner_of s r ≡ Some k = (listed r).0 (is_listed_among ns r found) in
        let never : true ≡ false = sym (ap (λ o. option_map_or (is_key k) o false) owner ∙ is_key_itself k) ∙ other in
        absurd (cc)
  ]
]

-- a set that was empty gives what was added to it by rising number
pub sorted_members : (ns : List ℕ) (none set : List Bool) → none ≡ replicate (length none) false → ((n : ℕ) → has set n ≡ (has none n || is_listed ns n)) → length set ≡ length none
    → members set ≡ sorted ns (length none)
sorted_members ns none set empty added sized =
    ap (λ m. filter (has set) (range_with_len 0 m)) sized
    ∙ filter_agree_on (has set) (is_listed ns) (range_with_len 0 (length none)) (λ n among. has_added (length none) none set ns empty added n)

pub sorted_owned : (s : TableState) (k : Key) (ns : List ℕ) (none : List Bool) → none ≡ replicate s.config.resources false → ((r : ℕ) → Among r ns ↔ (owner_of s r ≡ Some k)) → sorted ns (length none) ≡ owned_by_key s k
sorted_owned s k ns none empty listed =
    ap (λ b. filter (is_listed ns) (range_with_len 0 b)) (ap length empty ∙ length-replicate s.config.resources false)
    ∙ filter_agree_on (is_listed ns) (owns_key s k) (range_with_len 0 s.config.resources) (λ r among. owned_test s k ns listed r)

pub owned_listed : (s : TableState) (k : Key) → Laws s → (r : ℕ) → Among r (owned_by_key s k) ↔ (owner_of s r ≡ Some k)
owned_listed s k laws r = (
  λ among. owns_key_gives s k r (filter_gives (owns_key s k) (range_with_len 0 s.config.resources) r among).1,
  λ owner.
      let within = owner_in_range s laws r k owner in
      filter_keeps (owns_key s k) (range_with_len 0 s.config.resources) r (among_range 0 s.config.resources r (omega arith) (omega (arith, within)))
      (ap (λ o. option_map_or (is_key k) o false) owner ∙ is_key_itself k),
)

pub owned_within : (s : TableState) (k : Key) (ns : List ℕ) (bound : ℕ) → Laws s → bound ≡ s.config.resources → ((r : ℕ) → Among r ns ↔ (owner_of s r ≡ Some k)) → AllByRecursion (λ r. r < bound) ns
owned_within s k ns bound laws is listed = all_from (λ r. r < bound) ns (λ r among. omega (arith, owner_in_range s laws r k ((listed r).0 among), is))

-- a process has one live key, so what the process owns the key owns
generation_is : (s : TableState) (k : Key) → IsTrue (is_live s k) → slice_index s.generations k.process ≡ k.generation
generation_is s k live =
    let parts = and_parts (slice_index_or s.live k.process false) (nat_eq (slice_index s.generations k.process) k.generation) live in
    eqb-true (slice_index s.generations k.process) k.generation parts.1

key_by_process : (s : TableState) (k h : Key) → Laws s → IsTrue (is_live s k) → (r : ℕ) → owner_of s r ≡ Some h → is_key k h ≡ nat_eq h.process k.process
key_by_process s k h laws live r owned = elim (cases_Bool (nat_eq h.process k.process)) [
  | inr apart ↦ rw apart refl
  | inl same ↦
      let generation : h.generation ≡ k.generation
      = sym (generation_is s h (laws.lawful.well_formed.owners r h owned)) ∙ ap (slice_index s.generations) (eqb-true h.process k.process same) ∙ generation_is s k live in
      rw (same, eq-eqb h.generation k.generation generation) refl
]

owns_by : (s : TableState) (k : Key) (r : ℕ) → Laws s → IsTrue (is_live s k) → (o : Option Key) → owner_of s r ≡ o → option_map_or (is_key k) o false ≡ option_map_or (λ (h : Key). nat_eq h.process k.process) o false
owns_by s k r laws live None is = refl
owns_by s k r laws live (Some h) is = key_by_process s k h laws live r is

pub owned_by_process : (s : TableState) (k : Key) → Laws s → IsTrue (is_live s k) → owned_by_key s k ≡ filter (owns s k.process) (range_with_len 0 s.config.resources)
owned_by_process s k laws live =
    filter_agree_on (owns_key s k) (owns s k.process) (range_with_len 0 s.config.resources) (λ r among. owns_by s k r laws live (owner_of s r) refl)
