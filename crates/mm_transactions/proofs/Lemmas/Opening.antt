-- Transactions that were just made.
use Rattle.std.proofs.Common.{◌≡◌, ℕ, zero, suc, ◌≤◌, List, [], length, map, Option, Some, None, is_some, replicate, slice_index_or, refl, ap, sym, ◌∙◌, subst, arith}
use Rattle.std.proofs.lemmas.List.{length-replicate}
use Rattle.mm_arena.specs.declared.key.Key.{Key}
use Rattle.mm_arena.specs.Slots.{Place, never_used, opening_slots}
use Rattle.mm_links.specs.Link.{none_number}
use Rattle.mm_lists.proofs.Lemmas.Set.{read_replicate}
use Rattle.mm_queue.specs.Queues.{empty_queues}
use Rattle.mm_transactions.specs.declared.transaction.Entry.{Entry}
use Rattle.mm_transactions.specs.Transactions.{opening}
use Rattle.mm_transactions.specs.private.Layout.{Arrival, arrivals_from, waits_of, verdict_in, seen, IsLinked, IsConsistent}
use Rattle.mm_transactions.proofs.Lemmas.Arrivals.{none_at_opening}
use Rattle.mm_transactions.proofs.Lemmas.Waits.{no_waits, gone}
use Rattle.mm_transactions.proofs.Lemmas.Linked.{linked_opening}

same_for_each : {X : Type 0} (f : Place Entry → X) (n : ℕ) → map f (replicate n never_used) ≡ replicate n (f never_used)
same_for_each f zero = refl
same_for_each f (suc n) = cc (same_for_each f n)

waits_none : (ns : List ℕ) (n : ℕ) → waits_of (arrivals_from ns 0 (replicate n never_used)) ≡ []
waits_none ns n = ap waits_of (none_at_opening ns 0 n) ∙ no_waits n

pub opened : (ns : List ℕ) (processes resources limit : ℕ) → seen ns (opening_slots processes limit) (empty_queues resources processes) 0 ≡ opening processes resources limit
opened ns processes resources limit =
    rw (same_for_each (λ p. p.generation) processes, same_for_each (λ p. is_some p.value) processes, same_for_each verdict_in processes, waits_none ns processes, length-replicate {A = List Key} resources []) refl

pub open_consistent : (ns : List ℕ) (processes resources limit : ℕ) → length ns ≡ processes → processes ≤ 1048576 → resources ≤ none_number → IsConsistent ns (opening_slots processes limit) (empty_queues resources processes) 0 0
open_consistent ns processes resources limit as_many few few_lists =
    let none : (n : ℕ) (a : Arrival) → slice_index_or (arrivals_from ns 0 (replicate processes never_used)) n None ≡ Some a → ⊥ =
    λ n a there. gone (sym (ap (λ (xs : List (Option Arrival)). slice_index_or xs n None) (none_at_opening ns 0 processes) ∙ read_replicate None processes n) ∙ there) in
    record {
      sized = length-replicate processes never_used;
      as_many = as_many ∙ sym (length-replicate processes never_used);
      few = few;
      few_lists = omega (arith, few_lists, length-replicate {A = List Key} resources []);
      in_range = λ n a there. absurd (none n a there);
      numbered = λ n a there. absurd (none n a there);
      linked = subst (IsLinked (empty_queues resources processes)) (sym (waits_none ns processes)) (linked_opening resources processes);
      counted = sym (ap length (waits_none ns processes));
    }
