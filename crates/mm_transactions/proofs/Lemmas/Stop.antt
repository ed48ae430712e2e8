-- A transaction stops waiting.
use Rattle.std.proofs.Common.{◌≡◌, ◌≢◌, ℕ, ◌-◌, ◌<◌, ◌≤◌, List, length, is_some, filter, not, Option, Some, None, slice_set, slice_index_or, refl, sym, ap, subst, ◌∙◌, arith, length-set}
use Rattle.mm_arena.specs.declared.key.Key.{Key}
use Rattle.mm_arena.specs.Slots.{Slots, Place, lookup, with_value}
use Rattle.mm_queue.specs.Queues.{Queues, Stands, Removes}
use Rattle.mm_rules.specs.TableState.{is_of, waited_for}
use Rattle.mm_transactions.specs.declared.transaction.Entry.{Entry}
use Rattle.mm_transactions.specs.Transactions.{Transactions, without_wait}
use Rattle.mm_transactions.specs.private.Layout.{Arrival, arrival_of, arrivals_from, waits_of, verdict_in, seen, Each, IsLinked, IsConsistent}
use Rattle.mm_transactions.proofs.Lemmas.Slots.{holds, same_slot}
use Rattle.mm_transactions.proofs.Lemmas.Arrivals.{are_placed, its_arrival, written_arrivals}
use Rattle.mm_transactions.proofs.Lemmas.Waits.{own_waits, stops, set_keeps, gone, one_fewer}
use Rattle.mm_transactions.proofs.Lemmas.Linked.{stands_in_queue, linked_stop}
use Rattle.mm_transactions.proofs.Lemmas.Consistent.{waited_by_entry, within}

-- live transaction k waits
pub record IsWaiting (ns : List ℕ) (s : Slots Entry) (k : Key) (e : Entry) (q : Queues) (latest waiting : ℕ) : Type 0 where
  pub found : lookup s k ≡ Some e
  pub waits : waited_for (waits_of (arrivals_from ns 0 s.places)) k.process ≢ None
  pub kept : IsConsistent ns s q latest waiting

module _ {ns : List ℕ} {s : Slots Entry} {k : Key} {e : Entry} {q : Queues} {latest waiting : ℕ} (waits : IsWaiting ns s k e q latest waiting) where
  -- what it waits for
  its_resource : (r : ℕ) × (e.waits_for ≡ Some r)
  its_resource = by e.waits_for refl
    where
      by : (o : Option ℕ) → e.waits_for ≡ o → (r : ℕ) × (e.waits_for ≡ Some r)
      by None none = absurd (waits.waits (waited_by_entry ns s k e waits.found ∙ none))
      by (Some r) some = (r, some)

  arrival : Arrival
  arrival = record { wait = record { key = k; resource = its_resource.0 }; number = slice_index_or ns k.process 0 }

  here : slice_index_or (arrivals_from ns 0 s.places) k.process None ≡ Some arrival
  unfolding arrival
  here = its_arrival ns s k e waits.found ∙ ap (λ (o : Option ℕ). arrival_of ns k (record e { waits_for = o })) its_resource.1

  -- its key stands in a queue
  pub stands : Stands q k
  unfolding arrival
  stands =
      (its_resource.0, stands_in_queue q (waits_of (arrivals_from ns 0 s.places)) arrival.wait (own_waits (arrivals_from ns 0 s.places) k.process (Some arrival) (are_placed ns s.places) here) (waits.kept.in_range k.process arrival here) waits.kept.linked)

pub waits_now : (ns : List ℕ) (s : Slots Entry) (k : Key) (e : Entry) (q : Queues) (latest waiting : ℕ) (t : Transactions) → lookup s k ≡ Some e → seen ns s q latest ≡ t → waited_for t.waits k.process ≢ None → IsConsistent ns s q latest waiting
    → IsWaiting ns s k e q latest waiting
waits_now ns s k e q latest waiting t found is waits kept = record {
  found = found;
  waits = λ none. waits (sym (ap (λ t. waited_for t.waits k.process) is) ∙ none);
  kept = kept;
}

-- its key was taken out of the queues
pub record IsStop (ns : List ℕ) (s : Slots Entry) (k : Key) (e : Entry) (q q' : Queues) (latest waiting : ℕ) : Type 0 where
  pub at : IsWaiting ns s k e q latest waiting
  pub removes : Removes q q' k
  pub lists : length q'.lists ≡ length q.lists
  pub processes : q'.processes ≡ q.processes

pub stopped : {ns : List ℕ} {s : Slots Entry} {k : Key} {e : Entry} {q : Queues} {latest waiting : ℕ} (q' : Queues) → IsWaiting ns s k e q latest waiting → Removes q q' k → length q'.lists ≡ length q.lists → q'.processes ≡ q.processes
    → IsStop ns s k e q q' latest waiting
stopped q' at removes lists processes = record { at = at; removes = removes; lists = lists; processes = processes }

module _ {ns : List ℕ} {s : Slots Entry} {k : Key} {e : Entry} {q q' : Queues} {latest waiting : ℕ} (stop : IsStop ns s k e q q' latest waiting) where
  abbrev arrivals : List (Option Arrival)
  arrivals = arrivals_from ns 0 s.places

  abbrev slots : Slots Entry
  slots = with_value s k (record e { waits_for = None })

  are : arrivals_from ns 0 slots.places ≡ slice_set arrivals k.process None
  are = written_arrivals ns s k e stop.at.found (record e { waits_for = None })

  -- the others keep their places
  waits_are : waits_of (arrivals_from ns 0 slots.places) ≡ filter (λ w. not (is_of k.process w)) (waits_of arrivals)
  waits_are = ap waits_of are ∙ stops arrivals k.process (arrival stop.at) (are_placed ns s.places) (here stop.at)

  pub stop_consistent : IsConsistent ns slots q' latest (waiting - 1)
  unfolding arrival
  stop_consistent =
      let lists = stop.lists in
      let inside = within ns s k e stop.at.found in
      let one = own_waits arrivals k.process (Some (arrival stop.at)) (are_placed ns s.places) (here stop.at) in
      record {
        sized = omega (arith, length-set s.places k.process (record { generation = k.generation; value = Some (record e { waits_for = None }) }), stop.at.kept.sized, stop.processes);
        as_many = stop.at.kept.as_many ∙ sym (length-set s.places k.process (record { generation = k.generation; value = Some (record e { waits_for = None }) }));
        few = omega (arith, stop.at.kept.few, stop.processes);
        few_lists = omega (arith, lists, stop.at.kept.few_lists);
        in_range = subst (Each (λ a. a.wait.resource < length q'.lists)) (sym are)
            (set_keeps (λ m x. x.wait.resource < length q'.lists) arrivals k.process None inside (λ x never. gone never) (λ m x there. (let h = stop.at.kept.in_range m x there in omega arith)));
        numbered = subst (Each (λ a. a.number ≤ latest)) (sym are) (set_keeps (λ m x. x.number ≤ latest) arrivals k.process None inside (λ x never. gone never) stop.at.kept.numbered);
        linked = subst (IsLinked q') (sym waits_are) (linked_stop q q' (waits_of arrivals) (arrival stop.at).wait one (stop.at.kept.in_range k.process (arrival stop.at) (here stop.at)) stop.removes stop.at.kept.linked);
        counted = omega (arith, stop.at.kept.counted, one_fewer arrivals k.process (arrival stop.at) (here stop.at), ap (λ (xs : List (Option Arrival)). length (waits_of xs)) are);
      }

  pub stop_seen : seen ns slots q' latest ≡ without_wait (seen ns s q latest) k.process
  stop_seen =
      let place = (holds s k e stop.at.found).place in
      let p : Place Entry = record { generation = k.generation; value = Some (record e { waits_for = None }) } in
      rw (
        waits_are,
        same_slot (λ q. q.generation) s k.process p (ap (λ q. q.generation) (sym place)),
        same_slot (λ q. is_some q.value) s k.process p (ap (λ q. is_some q.value) (sym place)),
        same_slot verdict_in s k.process p (ap verdict_in (sym place)),
        stop.lists,
      ) refl
