-- A transaction starts to wait.
use Rattle.std.proofs.Common.{◌≡◌, ℕ, ◌+◌, ◌<◌, ◌≤◌, List, [], ◌∷◌, ◌++◌, length, is_some, Option, Some, None, slice_set, slice_index_or, refl, sym, ap, subst, ◌∙◌, arith, length-set, length-append, get_or-set_same}
use Rattle.mm_arena.specs.declared.key.Key.{Key}
use Rattle.mm_arena.specs.Slots.{Slots, Place, lookup, with_value}
use Rattle.mm_queue.specs.Queues.{Queues, queue, with_queue, IsOccupied}
use Rattle.mm_rules.specs.TableState.{waited_for}
use Rattle.mm_transactions.specs.declared.transaction.Entry.{Entry}
use Rattle.mm_transactions.specs.private.Layout.{Arrival, arrivals_from, waits_of, verdict_in, seen, Each, IsLinked, IsConsistent}
use Rattle.mm_transactions.proofs.Lemmas.Slots.{holds, same_slot}
use Rattle.mm_transactions.proofs.Lemmas.Arrivals.{are_placed, start_written, length_arrivals}
use Rattle.mm_transactions.proofs.Lemmas.Waits.{own_waits, starts, set_keeps, fewer_waits}
use Rattle.mm_transactions.proofs.Lemmas.Linked.{linked_start, not_occupied}
use Rattle.mm_transactions.proofs.Lemmas.Consistent.{no_arrival, within}

-- live transaction k, which does not wait, is about to wait for r
pub record IsStart (ns : List ℕ) (s : Slots Entry) (k : Key) (e : Entry) (r number : ℕ) (q : Queues) (latest waiting : ℕ) : Type 0 where
  pub found : lookup s k ≡ Some e
  pub resource : r < length q.lists
  pub later : latest < number
  pub idle : waited_for (waits_of (arrivals_from ns 0 s.places)) k.process ≡ None
  pub kept : IsConsistent ns s q latest waiting

module _ {ns : List ℕ} {s : Slots Entry} {k : Key} {e : Entry} {r number : ℕ} {q : Queues} {latest waiting : ℕ} (start : IsStart ns s k e r number q latest waiting) where
  abbrev arrivals : List (Option Arrival)
  arrivals = arrivals_from ns 0 s.places

  abbrev arrival : Arrival
  arrival = record { wait = record { key = k; resource = r }; number = number }

  abbrev slots : Slots Entry
  slots = with_value s k (record e { waits_for = Some r })

  abbrev numbers : List ℕ
  numbers = slice_set ns k.process number

  none : slice_index_or arrivals k.process None ≡ None
  none = no_arrival ns s k e start.found start.idle

  inside : k.process < length arrivals
  inside = within ns s k e start.found

  -- it stands in no queue
  pub vacant : IsOccupied q k.process → ⊥
  vacant = not_occupied q (waits_of arrivals) k.process start.kept.linked (own_waits arrivals k.process None (are_placed ns s.places) none)

  -- one more may wait
  pub room : waiting + 1 ≤ 1048576
  room = omega (arith, start.kept.counted, fewer_waits arrivals k.process inside none, length_arrivals ns 0 s.places, start.kept.sized, start.kept.few)

  -- there is a number for its process
  pub numbered : k.process < length ns
  numbered = omega (arith, inside, length_arrivals ns 0 s.places, start.kept.as_many)

  are : arrivals_from numbers 0 slots.places ≡ slice_set arrivals k.process (Some arrival)
  are =
      start_written ns s k e start.found number (record e { waits_for = Some r })
      ∙ ap (λ (m : ℕ). slice_set arrivals k.process (Some (record { wait = record { key = k; resource = r }; number = m }))) (get_or-set_same ns k.process number 0 numbered)

  -- its wait comes last
  waits_are : waits_of (arrivals_from numbers 0 slots.places) ≡ waits_of arrivals ++ record { key = k; resource = r } ∷ []
  waits_are = ap waits_of are ∙ starts arrivals k.process arrival inside none (λ m x there. (let h = start.kept.numbered m x there in let later = start.later in omega arith))

  it : (P : Arrival → Type 0) → P arrival → (x : Arrival) → Some arrival ≡ Some x → P x
  it P h x is = (let same : arrival ≡ x = cc in subst P same h)

  pub start_consistent : IsConsistent numbers slots (with_queue q r (queue q r ++ k ∷ [])) number (waiting + 1)
  start_consistent =
      let ks = queue q r ++ k ∷ [] in
      let lists = length-set q.lists r ks in
      let resource = start.resource in
      let later = start.later in
      record {
        sized = length-set s.places k.process _ ∙ start.kept.sized;
        as_many = length-set ns k.process number ∙ start.kept.as_many ∙ sym (length-set s.places k.process (record { generation = k.generation; value = Some (record e { waits_for = Some r }) }));
        few = start.kept.few;
        few_lists = omega (arith, lists, start.kept.few_lists);
        in_range = subst (Each (λ a. a.wait.resource < length (slice_set q.lists r ks))) (sym are)
            (set_keeps (λ m x. x.wait.resource < length (slice_set q.lists r ks)) arrivals k.process (Some arrival) inside
            (it (λ x. x.wait.resource < length (slice_set q.lists r ks)) (omega arith)) (λ m x there. (let h = start.kept.in_range m x there in omega arith)));
        numbered = subst (Each (λ a. a.number ≤ number)) (sym are)
            (set_keeps (λ m x. x.number ≤ number) arrivals k.process (Some arrival) inside (it (λ x. x.number ≤ number) (omega arith)) (λ m x there. (let h = start.kept.numbered m x there in omega arith)));
        linked = subst (IsLinked (with_queue q r ks)) (sym waits_are) (linked_start q (waits_of arrivals) arrival.wait resource start.kept.linked);
        counted = omega (arith, start.kept.counted, ap length waits_are, length-append (waits_of arrivals) (arrival.wait ∷ []));
      }

  pub start_seen : (q' : Queues) → q' ≡ with_queue q r (queue q r ++ k ∷ [])
      → seen numbers slots q' number ≡ record (seen ns s q latest) { waits = waits_of arrivals ++ record { key = k; resource = r } ∷ []; latest = number }
  start_seen q' is =
      let place = (holds s k e start.found).place in
      let p : Place Entry = record { generation = k.generation; value = Some (record e { waits_for = Some r }) } in
      ap (λ (v : Queues). seen numbers slots v number) is
      ∙ rw (
        waits_are,
        same_slot (λ q. q.generation) s k.process p (ap (λ q. q.generation) (sym place)),
        same_slot (λ q. is_some q.value) s k.process p (ap (λ q. is_some q.value) (sym place)),
        same_slot verdict_in s k.process p (ap verdict_in (sym place)),
        length-set q.lists r (queue q r ++ k ∷ []),
      ) refl
