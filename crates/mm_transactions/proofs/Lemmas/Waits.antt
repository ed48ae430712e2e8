-- The waits in order of arrival: what each change of the wait of one process does to them.
use Rattle.std.proofs.Common.{◌≡◌, ◌≢◌, ℕ, zero, suc, ◌+◌, ◌<◌, ◌≤◌, Bool, true, false, not, List, [], ◌∷◌, ◌++◌, length, map, filter, find, take, drop, replicate, Option, Some, None, slice_set, slice_index_or, refl, sym, ap, subst, ◌∙◌, inl, inr, arith, length-append, get_or-set_same, get_or-set_other}
use Rattle.std.proofs.lemmas.Bool.{cases_eq, cases_lt, cases_Bool, eq-eqb, ne_eqb}
use Rattle.std.proofs.lemmas.List.{map-append, length-map, get_or_past, set_split, set-get_or}
use Rattle.std.proofs.lemmas.List.Elements.{filter_map-append, filter-append}
use Rattle.std.specs.List.{AllByRecursion, cons_option, filter_map}
use Rattle.std.specs.Option.{option_map, option_to_list}
use Rattle.mm_lists.specs.Members.{Among, NoRepeat, head}
use Rattle.mm_lists.specs.Order.{in_order}
use Rattle.mm_lists.proofs.Lemmas.Among.{all_at, all_map, among_map_gives}
use Rattle.mm_lists.proofs.Lemmas.Filter as filters
use Rattle.mm_lists.proofs.Lemmas.Order.{all_in_order, filter_in_order, greatest_last, length_in_order}
use Rattle.mm_rules.specs.TableState.{Wait, is_of}
use Rattle.mm_transactions.specs.private.Layout.{Arrival, Each, waits_of}
use Rattle.mm_transactions.proofs.Lemmas.Arrivals.{ArePlaced}

abbrev number : Arrival → ℕ
number a = a.number

abbrev wait : Arrival → Wait
wait a = a.wait

-- those that there are
abbrev present : List (Option Arrival) → List Arrival
present arrivals = filter_map (λ o. o) arrivals

abbrev waits : List Arrival → List Wait
waits xs = map wait (in_order number xs)

-- a filter of the waits is the order of those that pass
filter_waits : (p : Wait → Bool) (xs : List Arrival) → filter p (waits xs) ≡ waits (filter (λ a. p a.wait) xs)
filter_waits p xs = filters.filter_map wait p (in_order number xs) ∙ ap (map wait) (filter_in_order number (λ a. p a.wait) xs)

-- ---- one process among all

-- those that there are before and behind process n
abbrev before : List (Option Arrival) → ℕ → List Arrival
before es n = present (take n es)

abbrev behind : List (Option Arrival) → ℕ → List Arrival
behind es n = present (drop (suc n) es)

around : (es : List (Option Arrival)) (n : ℕ) (o : Option Arrival) → n < length es → present (slice_set es n o) ≡ before es n ++ cons_option o (behind es n)
around es n o within = ap present (set_split es n o within) ∙ filter_map-append (λ (o : Option Arrival). o) (take n es) (o ∷ drop (suc n) es)

around_same : (es : List (Option Arrival)) (n : ℕ) (o : Option Arrival) → n < length es → slice_index_or es n None ≡ o → present es ≡ before es n ++ cons_option o (behind es n)
around_same es n o within here = ap present (sym (set-get_or es n None) ∙ ap (slice_set es n) here) ∙ around es n o within

each : (P : Arrival → Type 0) (es : List (Option Arrival)) → Each P es → AllByRecursion P (present es)
each P [] h = tt
each P (None ∷ es) h = each P es (λ n e there. h (suc n) e there)
each P (Some e ∷ es) h = (h 0 e refl, each P es (λ n x there. h (suc n) x there))

pub within_some : (es : List (Option Arrival)) (n : ℕ) (e : Arrival) → slice_index_or es n None ≡ Some e → n < length es
within_some es n e here = elim (cases_lt n (length es)) [
  | inl within ↦ within
  | inr past ↦ (let never : None ≡ Some e = sym (get_or_past es n None past) ∙ here in absurd (cc))
]

pub gone : {X : Type 0} {e : Arrival} → None ≡ Some e → X
gone never = absurd (cc)

-- what holds of each arrival still does where one is set
pub set_keeps : (P : ℕ → Arrival → Type 0) (es : List (Option Arrival)) (n : ℕ) (o : Option Arrival) → n < length es → ((x : Arrival) → o ≡ Some x → P n x)
    → ((m : ℕ) (x : Arrival) → slice_index_or es m None ≡ Some x → P m x) → (m : ℕ) (x : Arrival) → slice_index_or (slice_set es n o) m None ≡ Some x → P m x
set_keeps P es n o within new old m x there = elim (cases_eq m n) [
  | inl here ↦ subst (λ i. P i x) (sym here) (new x (sym (get_or-set_same es n o None within) ∙ ap (λ i. slice_index_or (slice_set es n o) i None) (sym here) ∙ there))
  | inr other ↦ old m x (sym (get_or-set_other es n m o None other) ∙ there)
]

-- what holds of the wait of each arrival holds of each wait
pub all_waits : (P : Wait → Type 0) (es : List (Option Arrival)) → Each (λ a. P a.wait) es → AllByRecursion P (waits_of es)
all_waits P es h = mapped (in_order number (present es)) (all_in_order number (λ a. P a.wait) (present es) (each (λ a. P a.wait) es h))
  where
    mapped : (xs : List Arrival) → AllByRecursion (λ a. P a.wait) xs → AllByRecursion P (map wait xs)
    mapped [] all = tt
    mapped (a ∷ xs) all = (all.0, mapped xs all.1)

-- ---- filters by process

absent : (es : List (Option Arrival)) (n : ℕ) → ArePlaced es → slice_index_or es n None ≡ None → AllByRecursion (λ e. e.wait.key.process ≢ n) (present es)
absent es n placed none = each (λ (e : Arrival). e.wait.key.process ≢ n) es (λ m e there its.
    gone (sym none ∙ ap (λ i. slice_index_or es i None) (sym its ∙ placed m e there) ∙ there))

abbrev of : ℕ → Arrival → Bool
of n e = is_of n e.wait

none_of : (es : List (Option Arrival)) (n : ℕ) → ArePlaced es → slice_index_or es n None ≡ None → AllByRecursion (λ e. of n e ≡ false) (present es)
none_of es n placed none = all_map (λ (e : Arrival). e.wait.key.process ≢ n) (λ e. of n e ≡ false) (λ e other. ne_eqb e.wait.key.process n other) (present es) (absent es n placed none)

without_placed : (es : List (Option Arrival)) (n : ℕ) → n < length es → ArePlaced es → ArePlaced (slice_set es n None)
without_placed es n within placed = set_keeps (λ m x. x.wait.key.process ≡ m) es n None within (λ x never. gone never) placed

both_empty : (xs ys : List Arrival) → xs ++ ys ≡ [] → (xs ≡ []) × (ys ≡ [])
both_empty [] ys e = (refl, e)
both_empty (x ∷ xs) ys e = (let never : x ∷ (xs ++ ys) ≡ [] = e in absurd (cc))

-- those of process n: the one that it waits by
only : (es : List (Option Arrival)) (n : ℕ) → ArePlaced es → (o : Option Arrival) → slice_index_or es n None ≡ o → filter (of n) (present es) ≡ option_to_list o
only es n placed None none = filters.filter_none (of n) (present es) (none_of es n placed none)
only es n placed (Some e) here =
    let within = within_some es n e here in
    let left = filters.filter_none (of n) (present (slice_set es n None)) (none_of (slice_set es n None) n (without_placed es n within placed) (get_or-set_same es n None None within)) in
    let apart = both_empty (filter (of n) (before es n)) (filter (of n) (behind es n)) (sym (filter-append (of n) (before es n) (behind es n)) ∙ ap (filter (of n)) (sym (around es n None within)) ∙ left) in
    ap (filter (of n)) (around_same es n (Some e) within here) ∙ filter-append (of n) (before es n) (e ∷ behind es n)
    ∙ rw (apart.0, eq-eqb e.wait.key.process n (placed n e here), apart.1) refl

-- ---- the laws

pub no_waits : (n : ℕ) → waits_of (replicate n None) ≡ []
no_waits zero = refl
no_waits (suc n) = no_waits n

-- a new wait comes last
pub starts : (es : List (Option Arrival)) (n : ℕ) (e : Arrival) → n < length es → slice_index_or es n None ≡ None → Each (λ a. a.number < e.number) es
    → waits_of (slice_set es n (Some e)) ≡ waits_of es ++ e.wait ∷ []
starts es n e within none below =
    let old = around_same es n None within none in
    let all = subst (λ l. AllByRecursion (λ x. x.number < e.number) l) old (each (λ x. x.number < e.number) es below) in
    ap waits (around es n (Some e) within) ∙ ap (map wait) (greatest_last number (before es n) (behind es n) e all ∙ ap (λ l. in_order number l ++ e ∷ []) (sym old))
    ∙ map-append wait (in_order number (present es)) (e ∷ [])

-- the wait of a process goes, and the others keep their order
pub stops : (es : List (Option Arrival)) (n : ℕ) (e : Arrival) → ArePlaced es → slice_index_or es n None ≡ Some e → waits_of (slice_set es n None) ≡ filter (λ w. not (is_of n w)) (waits_of es)
stops es n e placed here =
    let q : Arrival → Bool = λ e. not (of n e) in
    let left = slice_set es n None in
    let within = within_some es n e here in
    let out : q e ≡ false = ap not (eq-eqb e.wait.key.process n (placed n e here)) in
    let parts : filter q (present es) ≡ filter q (before es n ++ behind es n) =
    ap (filter q) (around_same es n (Some e) within here) ∙ filter-append q (before es n) (e ∷ behind es n) ∙ rw out (sym (filter-append q (before es n) (behind es n))) in
    let all_but : filter q (present left) ≡ present left = filters.filter_not (of n) (present left) (none_of left n (without_placed es n within placed) (get_or-set_same es n None None within)) in
    ap waits (sym all_but ∙ ap (filter q) (around es n None within) ∙ sym parts)
    ∙ sym (filter_waits (λ w. not (is_of n w)) (present es))

-- the waits of one process
pub own_waits : (es : List (Option Arrival)) (n : ℕ) (o : Option Arrival) → ArePlaced es → slice_index_or es n None ≡ o → filter (is_of n) (waits_of es) ≡ waits (option_to_list o)
own_waits es n o placed here = filter_waits (is_of n) (present es) ∙ ap waits (only es n placed o here)

find_head : (p : Wait → Bool) (ws : List Wait) → find p ws ≡ head (filter p ws)
find_head p [] = refl
find_head p (w ∷ ws) = elim (cases_Bool (p w)) [ inl yes_w ↦ rw yes_w refl | inr no_w ↦ rw no_w (find_head p ws) ]

head_waits : (o : Option Arrival) → head (waits (option_to_list o)) ≡ option_map wait o
head_waits None = refl
head_waits (Some e) = refl

-- what a process waits by is found among the waits
pub finds : (es : List (Option Arrival)) (n : ℕ) → ArePlaced es → find (is_of n) (waits_of es) ≡ option_map wait (slice_index_or es n None)
finds es n placed = find_head (is_of n) (waits_of es) ∙ ap head (own_waits es n (slice_index_or es n None) placed refl) ∙ head_waits (slice_index_or es n None)

-- ---- no process waits twice

-- at most one wait of each process
at_most_one : (es : List (Option Arrival)) → ArePlaced es → (n : ℕ) → length (filter (is_of n) (waits_of es)) ≤ 1
at_most_one es placed n = by (slice_index_or es n None) refl
  where
    by : (o : Option Arrival) → slice_index_or es n None ≡ o → length (filter (is_of n) (waits_of es)) ≤ 1
    by None here = rw (own_waits es n None placed here) (omega arith)
    by (Some e) here = rw (own_waits es n (Some e) placed here) (omega arith)

no_repeat : (ws : List Wait) → ((n : ℕ) → length (filter (is_of n) ws) ≤ 1) → NoRepeat (map (λ w. w.key.process) ws)
no_repeat [] one = tt
no_repeat (w ∷ ws) one = (again, no_repeat ws fewer)
  where
    fewer : (n : ℕ) → length (filter (is_of n) ws) ≤ 1
    fewer n = elim (cases_Bool (is_of n w)) [
      | inl mine ↦ let all : suc (length (filter (is_of n) ws)) ≤ 1 = rw mine at (one n) in omega arith
      | inr other ↦ rw other at (one n)
    ]

    none_else : length (filter (is_of w.key.process) ws) ≤ 0
    none_else = let all : suc (length (filter (is_of w.key.process) ws)) ≤ 1 = rw (eq-eqb w.key.process w.key.process refl) at (one w.key.process) in omega arith

    empty : (vs : List Wait) → length vs ≤ 0 → vs ≡ []
    empty [] h = refl
    empty (v ∷ vs) h = absurd (omega arith)

    again : Among w.key.process (map (λ w. w.key.process) ws) → ⊥
    again there =
        let of_it = among_map_gives (λ (w : Wait). w.key.process) ws w.key.process there in
        let fails = all_at (λ v. is_of w.key.process v ≡ false) ws of_it.0 (filters.none_pass (is_of w.key.process) ws (empty (filter (is_of w.key.process) ws) none_else)) of_it.1 in
        let never : false ≡ true = sym fails ∙ eq-eqb of_it.0.key.process w.key.process (sym of_it.2) in
        cc

pub once : (es : List (Option Arrival)) → ArePlaced es → NoRepeat (map (λ w. w.key.process) (waits_of es))
once es placed = no_repeat (waits_of es) (at_most_one es placed)

-- ---- how many wait

length_present : (es : List (Option Arrival)) → length (present es) ≤ length es
length_present [] = omega arith
length_present (None ∷ es) = let rest = length_present es in omega arith
length_present (Some e ∷ es) = let rest = length_present es in omega arith

length_waits : (es : List (Option Arrival)) → length (waits_of es) ≡ length (present es)
length_waits es = length-map (in_order number (present es)) wait ∙ length_in_order number (present es)

-- where a process does not wait, fewer wait than there are processes
pub fewer_waits : (es : List (Option Arrival)) (n : ℕ) → n < length es → slice_index_or es n None ≡ None → length (waits_of es) < length es
fewer_waits es n within none = omega (arith, length_waits es, go es n within none)
  where
    go : (es : List (Option Arrival)) (n : ℕ) → n < length es → slice_index_or es n None ≡ None → length (present es) < length es
    go [] n within none = absurd (omega arith)
    go (None ∷ es) zero within none = let rest = length_present es in omega arith
    go (Some e ∷ es) zero within none = gone (sym none)
    go (None ∷ es) (suc n) within none = let rest = go es n (omega arith) none in omega arith
    go (Some e ∷ es) (suc n) within none = let rest = go es n (omega arith) none in omega arith

-- one wait fewer, where one ends
pub one_fewer : (es : List (Option Arrival)) (n : ℕ) (e : Arrival) → slice_index_or es n None ≡ Some e → length (waits_of (slice_set es n None)) + 1 ≡ length (waits_of es)
one_fewer es n e here =
    let within = within_some es n e here in
    let old = ap length (around_same es n (Some e) within here) in
    let new = ap length (around es n None within) in
    omega (arith, length_waits es, length_waits (slice_set es n None), old, new, length-append (before es n) (e ∷ behind es n), length-append (before es n) (behind es n))
