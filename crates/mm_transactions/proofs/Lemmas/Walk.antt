-- A queue that is walked from one waiter to the next, by their processes.
use Rattle.std.proofs.Common.{◌≡◌, ◌≢◌, ℕ, List, [], ◌∷◌, ◌++◌, map, nat_eq, Option, Some, None, option_map, inl, refl, ap, sym, subst, ◌∙◌}
use Rattle.mm_lists.specs.Members.{Among, NoRepeat}
use Rattle.mm_lists.specs.Walk.{first_number, rest_from}
use Rattle.mm_lists.proofs.Lemmas.Among.{among_right}
use Rattle.mm_lists.proofs.Lemmas.Filter.{filter_gives}
use Rattle.mm_lists.proofs.Lemmas.NoRepeat.{no_repeat_filter, found_by_number}
use Rattle.mm_lists.proofs.Lemmas.Walk.{rest_from-part}
use Rattle.mm_rules.specs.TableState.{Wait, waited_for}
use Rattle.mm_transactions.specs.Transactions.{queue_of, first_key}
use Rattle.mm_transactions.specs.private.Walk.{IsNextWaiter, process, left_from, IsAt, StandsAt, processes_from}

first_is : (left : List Wait) → option_map (λ k. k.process) (first_key left) ≡ first_number process left
first_is [] = refl
first_is (w ∷ ws) = refl

pub at_start : (queue : List Wait) (next : Option ℕ) → next ≡ option_map (λ k. k.process) (first_key queue) → IsAt queue next queue
at_start queue next first = record { passed = []; whole = refl; first = first ∙ first_is queue }

-- one waiter is passed
pub record Passes (queue : List Wait) (n : ℕ) (left : List Wait) : Type 0 where
  pub wait : Wait
  pub others : List Wait
  pub left_is : left ≡ wait ∷ others
  pub process_is : wait.key.process ≡ n

pub passes : (queue : List Wait) (n : ℕ) (left : List Wait) → IsAt queue (Some n) left → Passes queue n left
passes queue n [] at = (let never : Some n ≡ None = at.first in absurd (cc))
passes queue n (w ∷ others) at = record { wait = w; others = others; left_is = refl; process_is = (let same : Some n ≡ Some w.key.process = at.first in cc) }

-- it is in the queue
pub at_among : (queue : List Wait) (n : ℕ) (left : List Wait) → IsAt queue (Some n) left → (one : Passes queue n left) → Among one.wait queue
at_among queue n left at one = subst (Among one.wait) (sym at.whole) (among_right at.passed left one.wait (subst (Among one.wait) (sym one.left_is) (inl refl)))

pub append_one : (xs : List Wait) (w : Wait) (ys : List Wait) → xs ++ w ∷ ys ≡ (xs ++ w ∷ []) ++ ys
append_one [] w ys = refl
append_one (x ∷ xs) w ys = ap (λ zs. x ∷ zs) (append_one xs w ys)

-- the next one is the first of the others
pub at_next : (waits queue : List Wait) (r n : ℕ) (next : Option ℕ) (left : List Wait) → queue_of waits r ≡ queue → IsAt queue (Some n) left → (one : Passes queue n left)
    → IsNextWaiter waits n next → IsAt queue next one.others
at_next waits queue r n next left are at one is_next = record {
  passed = at.passed ++ one.wait ∷ [];
  whole = at.whole ∙ ap (λ l. at.passed ++ l) one.left_is ∙ append_one at.passed one.wait one.others;
  first = is_next r at.passed one.wait one.others (are ∙ at.whole ∙ ap (λ l. at.passed ++ l) one.left_is) one.process_is ∙ first_is one.others;
}

pub left_is : (queue : List Wait) (next : Option ℕ) (left : List Wait) → NoRepeat (map process queue) → IsAt queue next left → left_from queue next ≡ left
left_is queue next left once at =
    ap (λ l. rest_from process l next) at.whole ∙ ap (λ o. rest_from process (at.passed ++ left) o) at.first
    ∙ rest_from-part process at.passed left (subst (λ l. NoRepeat (map process l)) at.whole once)

-- ---- the walk through the queue of r

once_queue : (waits : List Wait) (r : ℕ) → NoRepeat (map process waits) → NoRepeat (map process (queue_of waits r))
once_queue waits r once = no_repeat_filter process (λ w. nat_eq w.resource r) waits once

-- from the first on, all are left
module _ (waits : List Wait) (r : ℕ) (next : Option ℕ) (first : next ≡ option_map (λ k. k.process) (first_key (queue_of waits r))) (once : NoRepeat (map process waits)) where
  all : left_from (queue_of waits r) next ≡ queue_of waits r
  all = left_is (queue_of waits r) next (queue_of waits r) (once_queue waits r once) (at_start (queue_of waits r) next first)

  pub stands_first : StandsAt waits r next
  stands_first = record { at = subst (IsAt (queue_of waits r) next) (sym all) (at_start (queue_of waits r) next first); once = once }

  pub all_left : processes_from waits r next ≡ map process (queue_of waits r)
  all_left = ap (map process) all

-- a step
module _ (waits : List Wait) (r n : ℕ) (stands : StandsAt waits r (Some n)) where
  abbrev queue : List Wait
  queue = queue_of waits r

  abbrev left : List Wait
  left = left_from (queue_of waits r) (Some n)

  abbrev one : Passes (queue_of waits r) n (left_from (queue_of waits r) (Some n))
  one = passes (queue_of waits r) n (left_from (queue_of waits r) (Some n)) stands.at

  pub stands_waits : waited_for waits n ≢ None
  stands_waits none =
      let among = (filter_gives (λ v. nat_eq v.resource r) waits one.wait (at_among queue n left stands.at one)).0 in
      let found = found_by_number process waits one.wait n stands.once among one.process_is in
      let never : Some one.wait.resource ≡ None = sym (ap (option_map (λ (v : Wait). v.resource)) found) ∙ none in
      cc

  there : (next : Option ℕ) → IsNextWaiter waits n next → IsAt queue next one.others
  there next is_next = at_next waits queue r n next left refl stands.at one is_next

  others_left : (next : Option ℕ) → IsNextWaiter waits n next → left_from queue next ≡ one.others
  others_left next is_next = left_is queue next one.others (once_queue waits r stands.once) (there next is_next)

  pub steps_to : (next : Option ℕ) → IsNextWaiter waits n next → StandsAt waits r next
  steps_to next is_next = record { at = subst (IsAt queue next) (sym (others_left next is_next)) (there next is_next); once = stands.once }

  pub yields : (next : Option ℕ) → IsNextWaiter waits n next → processes_from waits r (Some n) ≡ n ∷ processes_from waits r next
  yields next is_next = ap (map process) one.left_is ∙ ap (λ m. m ∷ map process one.others) one.process_is ∙ ap (λ ws. n ∷ map process ws) (sym (others_left next is_next))
