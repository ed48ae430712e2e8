-- A change of the slots that leaves the waits as they were, and what a transaction waits for.
use Rattle.std.proofs.Common.{◌≡◌, ℕ, ◌<◌, ◌≤◌, List, length, Option, Some, None, slice_index_or, refl, sym, ap, subst, ◌∙◌, arith}
use Rattle.std.specs.Option.{option_map}
use Rattle.mm_arena.specs.declared.key.Key.{Key}
use Rattle.mm_arena.specs.Slots.{Slots, Place, lookup}
use Rattle.mm_queue.specs.Queues.{Queues}
use Rattle.mm_rules.specs.TableState.{Wait, waited_for}
use Rattle.mm_transactions.specs.declared.transaction.Entry.{Entry}
use Rattle.mm_transactions.specs.private.Layout.{Arrival, arrival_of, arrivals_from, waits_of, Each, IsLinked, IsConsistent}
use Rattle.mm_transactions.proofs.Lemmas.Slots.{holds}
use Rattle.mm_transactions.proofs.Lemmas.Arrivals.{are_placed, its_arrival, length_arrivals}
use Rattle.mm_transactions.proofs.Lemmas.Waits.{finds}

pub same_waits : (ns : List ℕ) (s t : Slots Entry) (q : Queues) (latest waiting : ℕ) → length t.places ≡ length s.places → arrivals_from ns 0 t.places ≡ arrivals_from ns 0 s.places
    → IsConsistent ns s q latest waiting → IsConsistent ns t q latest waiting
same_waits ns s t q latest waiting long same kept = record {
  sized = long ∙ kept.sized;
  as_many = kept.as_many ∙ sym long;
  few = kept.few;
  few_lists = kept.few_lists;
  in_range = subst (Each (λ a. a.wait.resource < length q.lists)) (sym same) kept.in_range;
  numbered = subst (Each (λ a. a.number ≤ latest)) (sym same) kept.numbered;
  linked = subst (λ (xs : List (Option Arrival)). IsLinked q (waits_of xs)) (sym same) kept.linked;
  counted = kept.counted ∙ ap (λ (xs : List (Option Arrival)). length (waits_of xs)) (sym same);
}

-- what a process waits for
pub waited_is : (ns : List ℕ) (ps : List (Place Entry)) (n : ℕ) → waited_for (waits_of (arrivals_from ns 0 ps)) n ≡ option_map (λ a. a.wait.resource) (slice_index_or (arrivals_from ns 0 ps) n None)
waited_is ns ps n = ap (option_map (λ (w : Wait). w.resource)) (finds (arrivals_from ns 0 ps) n (are_placed ns ps)) ∙ twice (slice_index_or (arrivals_from ns 0 ps) n None)
  where
    twice : (o : Option Arrival) → option_map (λ (w : Wait). w.resource) (option_map (λ a. a.wait) o) ≡ option_map (λ a. a.wait.resource) o
    twice None = refl
    twice (Some a) = refl

module _ (ns : List ℕ) (s : Slots Entry) (k : Key) (e : Entry) (found : lookup s k ≡ Some e) where
  -- a live transaction waits for what its entry says
  pub waited_by_entry : waited_for (waits_of (arrivals_from ns 0 s.places)) k.process ≡ e.waits_for
  waited_by_entry = waited_is ns s.places k.process ∙ ap (option_map (λ (a : Arrival). a.wait.resource)) (its_arrival ns s k e found) ∙ resource e.waits_for
    where
      resource : (o : Option ℕ) → option_map (λ a. a.wait.resource) (arrival_of ns k (record e { waits_for = o })) ≡ o
      resource None = refl
      resource (Some r) = refl

  -- one that does not wait has no arrival
  pub no_arrival : waited_for (waits_of (arrivals_from ns 0 s.places)) k.process ≡ None → slice_index_or (arrivals_from ns 0 s.places) k.process None ≡ None
  no_arrival idle = its_arrival ns s k e found ∙ ap (λ (o : Option ℕ). arrival_of ns k (record e { waits_for = o })) (sym waited_by_entry ∙ idle)

  pub within : k.process < length (arrivals_from ns 0 s.places)
  within = omega (arith, length_arrivals ns 0 s.places, (holds s k e found).within)
