-- The wait of each process, read off its slot.
use Rattle.std.proofs.Common.{◌≡◌, ◌≢◌, ◌<◌, ℕ, zero, suc, ◌+◌, List, [], ◌∷◌, length, Option, Some, None, slice_set, slice_index_or, replicate, option_and_then, option_map, refl, sym, ap, ◌∙◌, arith, get_or-set_other}
use Rattle.std.proofs.lemmas.List.{set-get_or}
use Rattle.mm_arena.specs.declared.key.Key.{Key}
use Rattle.mm_arena.specs.Slots.{Slots, Place, never_used, lookup, with_value}
use Rattle.mm_transactions.specs.declared.transaction.Entry.{Entry}
use Rattle.mm_transactions.specs.private.Layout.{Arrival, arrival_of, arrival_in, arrivals_from}
use Rattle.mm_transactions.proofs.Lemmas.Slots.{holds}

-- each arrival is under the number of its own process
abbrev pub ArePlaced : List (Option Arrival) → Type 0
ArePlaced arrivals = (n : ℕ) (a : Arrival) → slice_index_or arrivals n None ≡ Some a → a.wait.key.process ≡ n

pub length_arrivals : (ns : List ℕ) (n : ℕ) (ps : List (Place Entry)) → length (arrivals_from ns n ps) ≡ length ps
length_arrivals ns n [] = refl
length_arrivals ns n (p ∷ ps) = ap suc (length_arrivals ns (n + 1) ps)

set_arrivals : (ns : List ℕ) (n : ℕ) (ps : List (Place Entry)) (i : ℕ) (p : Place Entry) → arrivals_from ns n (slice_set ps i p) ≡ slice_set (arrivals_from ns n ps) i (arrival_in ns (n + i) p)
set_arrivals ns n [] i p = refl
set_arrivals ns n (q ∷ ps) zero p = ap (λ m. arrival_in ns m p ∷ arrivals_from ns (n + 1) ps) (omega arith)
set_arrivals ns n (q ∷ ps) (suc i) p =
    ap (λ xs. arrival_in ns n q ∷ xs) (set_arrivals ns (n + 1) ps i p ∙ ap (λ m. slice_set (arrivals_from ns (n + 1) ps) i (arrival_in ns m p)) (omega arith))

arrival_at : (ns : List ℕ) (n : ℕ) (ps : List (Place Entry)) (i : ℕ) → slice_index_or (arrivals_from ns n ps) i None ≡ arrival_in ns (n + i) (slice_index_or ps i never_used)
arrival_at ns n [] i = refl
arrival_at ns n (q ∷ ps) zero = ap (λ m. arrival_in ns m q) (omega arith)
arrival_at ns n (q ∷ ps) (suc i) = arrival_at ns (n + 1) ps i ∙ ap (λ m. arrival_in ns m (slice_index_or ps i never_used)) (omega arith)

-- ---- the number of one process is written

other_number : (ns : List ℕ) (i number : ℕ) (k : Key) (e : Entry) → k.process ≢ i → arrival_of (slice_set ns i number) k e ≡ arrival_of ns k e
other_number ns i number k e other = rw (get_or-set_other ns i k.process number 0 other) refl

other_arrival : (ns : List ℕ) (i number n : ℕ) (p : Place Entry) → n ≢ i → arrival_in (slice_set ns i number) n p ≡ arrival_in ns n p
other_arrival ns i number n p other = by p.value
  where
    by : (v : Option Entry)
        → option_and_then (arrival_of (slice_set ns i number) (record { process = n; generation = p.generation })) v ≡ option_and_then (arrival_of ns (record { process = n; generation = p.generation })) v
    by None = refl
    by (Some e) = other_number ns i number (record { process = n; generation = p.generation }) e other

-- those of the processes above stay
arrivals_above : (ns : List ℕ) (i number n : ℕ) (ps : List (Place Entry)) → i < n → arrivals_from (slice_set ns i number) n ps ≡ arrivals_from ns n ps
arrivals_above ns i number n [] above = refl
arrivals_above ns i number n (p ∷ ps) above =
    let here = other_arrival ns i number n p (λ same. omega (arith, above, same)) in
    let there = arrivals_above ns i number (n + 1) ps (omega (arith, above)) in
    cc

-- with its slot: the arrivals of the others stay
both_written : (ns : List ℕ) (i number n j : ℕ) (ps : List (Place Entry)) (p : Place Entry) → i ≡ n + j
    → arrivals_from (slice_set ns i number) n (slice_set ps j p) ≡ slice_set (arrivals_from ns n ps) j (arrival_in (slice_set ns i number) i p)
both_written ns i number n j [] p at = refl
both_written ns i number n zero (q ∷ ps) p at =
    let same : n ≡ i = omega (arith, at) in
    let here = ap (λ m. arrival_in (slice_set ns i number) m p) same in
    let there = arrivals_above ns i number (n + 1) ps (omega (arith, at)) in
    cc
both_written ns i number n (suc j) (q ∷ ps) p at =
    let here = other_arrival ns i number n q (λ same. omega (arith, at, same)) in
    let there = both_written ns i number (n + 1) j ps p (omega (arith, at)) in
    cc

-- ---- one slot

pub arrival_in_slot : (ns : List ℕ) (ps : List (Place Entry)) (n : ℕ) → slice_index_or (arrivals_from ns 0 ps) n None ≡ arrival_in ns n (slice_index_or ps n never_used)
arrival_in_slot ns ps n = arrival_at ns 0 ps n ∙ ap (λ m. arrival_in ns m (slice_index_or ps n never_used)) (omega arith)

pub set_slot : (ns : List ℕ) (ps : List (Place Entry)) (n : ℕ) (p : Place Entry) → arrivals_from ns 0 (slice_set ps n p) ≡ slice_set (arrivals_from ns 0 ps) n (arrival_in ns n p)
set_slot ns ps n p = set_arrivals ns 0 ps n p ∙ ap (λ m. slice_set (arrivals_from ns 0 ps) n (arrival_in ns m p)) (omega arith)

of_entry : (ns : List ℕ) (k : Key) (e : Entry) (a : Arrival) → arrival_of ns k e ≡ Some a → a.wait.key ≡ k
of_entry ns k e a is = by e.waits_for is
  where
    by : (w : Option ℕ) → option_map {U = Arrival} (λ r. record { wait = record { key = k; resource = r }; number = slice_index_or ns k.process 0 }) w ≡ Some a → a.wait.key ≡ k
    by None none = (let never : None ≡ Some a = none in cc)
    by (Some r) some = (let same : record { wait = record { key = k; resource = r }; number = slice_index_or ns k.process 0 } ≡ a = cc in ap (λ (b : Arrival). b.wait.key) (sym same))

own_key : (ns : List ℕ) (n : ℕ) (p : Place Entry) (a : Arrival) → arrival_in ns n p ≡ Some a → a.wait.key ≡ record { process = n; generation = p.generation }
own_key ns n p a is = by p.value is
  where
    by : (v : Option Entry) → option_and_then (arrival_of ns (record { process = n; generation = p.generation })) v ≡ Some a → a.wait.key ≡ record { process = n; generation = p.generation }
    by None none = (let never : None ≡ Some a = none in cc)
    by (Some e) some = of_entry ns (record { process = n; generation = p.generation }) e a some

-- the key of an arrival is that of its slot
pub key_at : (ns : List ℕ) (ps : List (Place Entry)) (n : ℕ) (a : Arrival) → slice_index_or (arrivals_from ns 0 ps) n None ≡ Some a
    → a.wait.key ≡ record { process = n; generation = (slice_index_or ps n never_used).generation }
key_at ns ps n a there = own_key ns n (slice_index_or ps n never_used) a (sym (arrival_in_slot ns ps n) ∙ there)

pub are_placed : (ns : List ℕ) (ps : List (Place Entry)) → ArePlaced (arrivals_from ns 0 ps)
are_placed ns ps n a there = ap (λ (k : Key). k.process) (key_at ns ps n a there)

-- ---- a live transaction

module _ (ns : List ℕ) (s : Slots Entry) (k : Key) (e : Entry) (found : lookup s k ≡ Some e) where
  pub its_arrival : slice_index_or (arrivals_from ns 0 s.places) k.process None ≡ arrival_of ns k e
  its_arrival = arrival_in_slot ns s.places k.process ∙ ap (arrival_in ns k.process) (holds s k e found).place

  pub written_arrivals : (now : Entry) → arrivals_from ns 0 (with_value s k now).places ≡ slice_set (arrivals_from ns 0 s.places) k.process (arrival_of ns k now)
  written_arrivals now = set_slot ns s.places k.process (record { generation = k.generation; value = Some now })

  pub start_written : (number : ℕ) (now : Entry)
      → arrivals_from (slice_set ns k.process number) 0 (with_value s k now).places ≡ slice_set (arrivals_from ns 0 s.places) k.process (arrival_of (slice_set ns k.process number) k now)
  start_written number now = both_written ns k.process number 0 k.process s.places (record { generation = k.generation; value = Some now }) (omega arith)

-- a slot is written, and its wait is as it was
pub same_arrivals : (ns : List ℕ) (ps : List (Place Entry)) (n : ℕ) (p : Place Entry) → arrival_in ns n p ≡ arrival_in ns n (slice_index_or ps n never_used) → arrivals_from ns 0 (slice_set ps n p) ≡ arrivals_from ns 0 ps
same_arrivals ns ps n p alike =
    set_slot ns ps n p ∙ ap (slice_set (arrivals_from ns 0 ps) n) (alike ∙ sym (arrival_in_slot ns ps n)) ∙ set-get_or (arrivals_from ns 0 ps) n None

pub none_at_opening : (ns : List ℕ) (n m : ℕ) → arrivals_from ns n (replicate m never_used) ≡ replicate m None
none_at_opening ns n zero = refl
none_at_opening ns n (suc m) = ap (λ xs. None ∷ xs) (none_at_opening ns (n + 1) m)
