-- The queues when a wait starts and when one stops, whatever the waits are read off.
use Rattle.std.proofs.Common.{◌≡◌, ◌≢◌, ℕ, ◌<◌, ◌≤◌, Bool, true, false, not, List, [], ◌∷◌, ◌++◌, length, map, filter, nat_eq, find, if◌then◌else◌, Option, Some, None, replicate, refl, sym, ap, subst, ◌∙◌, inl, inr, arith, append-nil, length-set, get_or-set_same, get_or-set_other}
use Rattle.std.proofs.lemmas.Bool.{cases_Bool, cases_eq, cases_lt, eq-eqb, eqb-true, ne_eqb}
use Rattle.std.proofs.lemmas.List.{map-append, length-replicate, get_or-replicate, get_or_past}
use Rattle.std.proofs.lemmas.List.Elements.{filter-append}
use Rattle.std.specs.Option.{option_map}
use Rattle.mm_arena.specs.declared.key.Key.{Key}
use Rattle.mm_lists.specs.Members.{Among, head}
use Rattle.mm_lists.proofs.Lemmas.Among.{all_at, among_map}
use Rattle.mm_lists.proofs.Lemmas.Cut.{cut_at}
use Rattle.mm_lists.proofs.Lemmas.Filter.{filter_keeps, filter_swap, filter_not, filter_only, only_among, none_pass, filter_map}
use Rattle.mm_queue.specs.Queues.{Queues, queue, with_queue, IsOccupied, IsNextProcess, Removes}
use Rattle.mm_rules.specs.TableState.{Wait, is_of, waited_for}
use Rattle.mm_transactions.specs.Transactions.{queue_of, first_key}
use Rattle.mm_transactions.specs.private.Walk.{IsNextWaiter}
use Rattle.mm_transactions.specs.private.Layout.{keys_for, IsLinked}

abbrev key : Wait → Key
key w = w.key

abbrev is_for : ℕ → Wait → Bool
is_for r w = nat_eq w.resource r

-- ---- the keys that wait for one resource

keys_more : (r : ℕ) (ws : List Wait) (w : Wait) → w.resource ≡ r → keys_for r (ws ++ w ∷ []) ≡ keys_for r ws ++ w.key ∷ []
keys_more r ws w mine =
    ap (map key) (filter-append (is_for r) ws (w ∷ [])) ∙ map-append key (queue_of ws r) (filter (is_for r) (w ∷ [])) ∙ rw (eq-eqb w.resource r mine) refl

keys_same : (r : ℕ) (ws : List Wait) (w : Wait) → w.resource ≢ r → keys_for r (ws ++ w ∷ []) ≡ keys_for r ws
keys_same r ws w other = ap (map key) (filter-append (is_for r) ws (w ∷ []) ∙ rw (ne_eqb w.resource r other) (append-nil (queue_of ws r)))

-- the keys of process n among them
keys_of : (r n : ℕ) (ws : List Wait) → filter (λ k. nat_eq k.process n) (keys_for r ws) ≡ keys_for r (filter (is_of n) ws)
keys_of r n ws = filter_map key (λ k. nat_eq k.process n) (queue_of ws r) ∙ ap (map key) (filter_swap (is_of n) (is_for r) ws)

-- and the others
keys_but : (r n : ℕ) (ws : List Wait) → keys_for r (filter (λ w. not (is_of n w)) ws) ≡ filter (λ k. not (nat_eq k.process n)) (keys_for r ws)
keys_but r n ws = ap (map key) (filter_swap (is_for r) (λ w. not (is_of n w)) ws) ∙ sym (filter_map key (λ k. not (nat_eq k.process n)) (queue_of ws r))

-- ---- queues

-- a key that stands in a list stands in one that there is
in_lists : (q : Queues) (r : ℕ) (k : Key) → Among k (queue q r) → r < length q.lists
in_lists q r k among = elim (cases_lt r (length q.lists)) [
  | inl within ↦ within
  | inr past ↦ absurd (subst (Among k) (get_or_past q.lists r [] past) among)
]

-- who does not wait stands in no queue
pub not_occupied : (q : Queues) (ws : List Wait) (n : ℕ) → IsLinked q ws → filter (is_of n) ws ≡ [] → IsOccupied q n → ⊥
not_occupied q ws n linked idle occupied =
    let k = occupied.0 in
    let r = occupied.2.0 in
    let its : Key → Bool = λ k. nat_eq k.process n in
    let none : filter its (queue q r) ≡ [] = ap (filter its) (linked r (in_lists q r k occupied.2.1)) ∙ keys_of r n ws ∙ ap (keys_for r) idle in
    let out = all_at (λ k. its k ≡ false) (queue q r) k (none_pass its (queue q r) none) occupied.2.1 in
    let never : false ≡ true = sym out ∙ eq-eqb k.process n occupied.1 in
    cc

queued_once : (q : Queues) (ws : List Wait) (w : Wait) → filter (is_of w.key.process) ws ≡ w ∷ [] → w.resource < length q.lists → IsLinked q ws
    → filter (λ k. nat_eq k.process w.key.process) (queue q w.resource) ≡ w.key ∷ []
queued_once q ws w one within linked =
    ap (filter (λ k. nat_eq k.process w.key.process)) (linked w.resource within) ∙ keys_of w.resource w.key.process ws ∙ ap (keys_for w.resource) one ∙ rw (eq-eqb w.resource w.resource refl) refl

-- a wait starts: its key comes last in the queue of its resource
pub linked_start : (q : Queues) (ws : List Wait) (w : Wait) → w.resource < length q.lists → IsLinked q ws
    → IsLinked (with_queue q w.resource (queue q w.resource ++ w.key ∷ [])) (ws ++ w ∷ [])
linked_start q ws w within linked s inside =
    let r = w.resource in
    let ks = queue q r ++ w.key ∷ [] in
    let there : s < length q.lists = omega (arith, length-set q.lists r ks) in
    elim (cases_eq s r) [
      | inl same ↦
          ap (queue (with_queue q r ks)) same ∙ get_or-set_same q.lists r ks [] within ∙ ap (λ l. l ++ w.key ∷ []) (linked r within)
          ∙ sym (keys_more r ws w refl) ∙ ap (λ i. keys_for i (ws ++ w ∷ [])) (sym same)
      | inr other ↦ get_or-set_other q.lists r s ks [] other ∙ linked s there ∙ sym (keys_same s ws w (λ e. other (sym e)))
    ]

-- w is the only wait of its process, and its key stands between these
linked_without : (q : Queues) (ws : List Wait) (w : Wait) (b a : List Key) → filter (is_of w.key.process) ws ≡ w ∷ [] → w.resource < length q.lists → queue q w.resource ≡ b ++ w.key ∷ a → IsLinked q ws
    → IsLinked (with_queue q w.resource (b ++ a)) (filter (λ v. not (is_of w.key.process v)) ws)
linked_without q ws w b a one within split linked s inside =
    let r = w.resource in
    let n = w.key.process in
    let its : Key → Bool = λ k. nat_eq k.process n in
    let lists = length-set q.lists r (b ++ a) in
    let but = keys_but s n ws in
    elim (cases_eq s r) [
      | inl same ↦
          let only : filter its (b ++ w.key ∷ a) ≡ w.key ∷ [] = ap (filter its) (sym split) ∙ queued_once q ws w one within linked in
          ap (queue (with_queue q r (b ++ a))) same ∙ get_or-set_same q.lists r (b ++ a) [] within ∙ sym (filter_only its w.key b a (eq-eqb n n refl) only)
          ∙ ap (filter (λ k. not (its k))) (sym split ∙ linked r within ∙ ap (λ i. keys_for i ws) (sym same)) ∙ sym but
      | inr other ↦
          let none : filter its (keys_for s ws) ≡ [] = keys_of s n ws ∙ ap (keys_for s) one ∙ rw (ne_eqb r s (λ e. other (sym e))) refl in
          get_or-set_other q.lists r s (b ++ a) [] other ∙ linked s (omega arith) ∙ sym (filter_not its (keys_for s ws) (none_pass its (keys_for s ws) none)) ∙ sym but
    ]

-- and its key stands in the queue of its resource
pub stands_in_queue : (q : Queues) (ws : List Wait) (w : Wait) → filter (is_of w.key.process) ws ≡ w ∷ [] → w.resource < length q.lists → IsLinked q ws
    → Among w.key (queue q w.resource)
stands_in_queue q ws w one within linked =
    only_among (λ (k : Key). nat_eq k.process w.key.process) w.key (queue q w.resource) (queued_once q ws w one within linked)

-- a wait stops: its key is taken out of its queue
pub linked_stop : (q q' : Queues) (ws : List Wait) (w : Wait) → filter (is_of w.key.process) ws ≡ w ∷ [] → w.resource < length q.lists → Removes q q' w.key → IsLinked q ws
    → IsLinked q' (filter (λ v. not (is_of w.key.process v)) ws)
linked_stop q q' ws w one within removes linked =
    let r = w.resource in
    let cut = cut_at w.key (queue q r) (stands_in_queue q ws w one within linked) in
    rw (removes r cut.earlier cut.later cut.whole) (linked_without q ws w cut.earlier cut.later one within cut.whole linked)

pub linked_opening : (r n : ℕ) → IsLinked (record { lists = replicate r []; processes = n }) []
linked_opening r n s inside = get_or-replicate r s [] [] (omega (arith, length-replicate {A = List Key} r []))

-- ---- what is read of a queue

-- who waits for nothing has no wait
idle_none : (n : ℕ) (ws : List Wait) → waited_for ws n ≡ None → filter (is_of n) ws ≡ []
idle_none n [] idle = refl
idle_none n (w ∷ ws) idle = by (is_of n w) refl (idle_none n ws)
  where
    tested : Bool → Option ℕ
    tested b = option_map (λ (v : Wait). v.resource) (if b then Some w else find (is_of n) ws)

    by : (b : Bool) → is_of n w ≡ b → (waited_for ws n ≡ None → filter (is_of n) ws ≡ []) → filter (is_of n) (w ∷ ws) ≡ []
    by true its rest = (let never : Some w.resource ≡ None = ap tested (sym its) ∙ idle in absurd (cc))
    by false other rest = rw other (rest (ap tested (sym other) ∙ idle))

found : (ws : List Wait) (n : ℕ) → waited_for ws n ≢ None → (w : Wait) × Among w ws × (w.key.process ≡ n)
found [] n some = absurd (some refl)
found (w ∷ ws) n some = elim (cases_Bool (nat_eq w.key.process n)) [
  | inl mine ↦ (w, inl refl, eqb-true w.key.process n mine)
  | inr other ↦ let rest = found ws n (rw other at some) in (rest.0, inr rest.1, rest.2)
]

-- who waits stands in a queue
pub waiting_stands : (q : Queues) (ws : List Wait) (n : ℕ) → IsLinked q ws → ((r : ℕ) → length q.lists ≤ r → queue_of ws r ≡ []) → waited_for ws n ≢ None → IsOccupied q n
waiting_stands q ws n linked past some =
    let one = found ws n some in
    let w = one.0 in
    let r = w.resource in
    let queued : Among w (queue_of ws r) = filter_keeps (λ v. nat_eq v.resource r) ws w one.1 (eq-eqb r r refl) in
    let below : r < length q.lists = elim (cases_lt r (length q.lists)) [ inl low ↦ low | inr over ↦ absurd (subst (Among w) (past r over) queued) ] in
    (w.key, one.2, (r, subst (Among w.key) (sym (linked r below)) (among_map (λ v. v.key) (queue_of ws r) w queued)))

pub first_is : (ws : List Wait) → head (map key ws) ≡ first_key ws
first_is [] = refl
first_is (w ∷ ws) = refl

-- what follows a process in its list is the next waiter
pub next_is : (q : Queues) (ws : List Wait) (n : ℕ) (next : Option ℕ) → IsLinked q ws → ((r : ℕ) → length q.lists ≤ r → queue_of ws r ≡ []) → IsNextProcess q n next → IsNextWaiter ws n next
next_is q ws n next linked none is r before w after split own = elim (cases_lt r (length q.lists)) [
  | inl within ↦ is r (map key before) w.key (map key after) (linked r within ∙ ap (map key) split ∙ map-append key before (w ∷ after)) own ∙ ap (option_map (λ (k : Key). k.process)) (first_is after)
  | inr past ↦ absurd (never before (sym split ∙ none r past))
]
  where
    never : (b : List Wait) → b ++ w ∷ after ≡ [] → ⊥
    never [] e = cc
    never (v ∷ b) e = (let absurd_ : v ∷ (b ++ w ∷ after) ≡ [] = e in cc)
