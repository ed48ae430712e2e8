-- A resource goes to the longest waiter, and what is left of its queue.
use Rattle.std.proofs.Common.{◌≡◌, ◌≢◌, ℕ, zero, suc, ◌<◌, ◌&&◌, Bool, true, false, not, is_some, List, [], ◌∷◌, map, filter, slice_set, Option, Some, None, option_map, nat_eq, refl, ap, sym, ◌∙◌, subst, inl, arith, IsTrue}
use Rattle.std.proofs.lemmas.Bool.{eq-eqb, ne_eqb}
use Rattle.std.specs.List.{list_all}
use Rattle.mm_arena.specs.declared.key.Key.{Key}
use Rattle.mm_lists.specs.Members.{Among, NoRepeat}
use Rattle.mm_lists.proofs.Lemmas.Among.{all_map}
use Rattle.mm_lists.proofs.Lemmas.Filter.{filter_gives, filter_swap, filter_not}
use Rattle.mm_lists.proofs.Lemmas.NoRepeat.{no_repeat_filter, found_by_number}
use Rattle.mm_rules.specs.TableState.{TableState, Wait, is_of, is_live, is_waiting, waiters_of}
use Rattle.mm_rules.specs.Change.{activate, block_fits, give_to, give_to_fits, hand_over, hand_over_fits}
use Rattle.mm_rules.specs.Stages.{blocked_on, NoneIs}
use Rattle.mm_transactions.specs.Transactions.{first_key, WaitsAreLawful}
use Rattle.mm_settle_lemmas.specs.Steps.Added.{Adds, AddsAll}
use Rattle.mm_settle_lemmas.proofs.Lemmas.Added.{adds_first}
use Rattle.mm_table.specs.declared.records.Records.TheInside.{Inside}
use Rattle.mm_table.specs.private.Records.{IsConsistent, state_of_records}
use Rattle.mm_table.proofs.Fields.Walk.{process, queued}
use Rattle.mm_table.proofs.Fields.BlockQueue.{none_is}

-- no process waits twice for one resource
pub once_queue : (s : TableState) (r : ℕ) → NoRepeat (map (λ w. w.key.process) s.waits) → NoRepeat (map (λ w. w.key.process) (waiters_of s r))
once_queue s r once = no_repeat_filter (λ (w : Wait). w.key.process) (λ w. nat_eq w.resource r) s.waits once

-- ---- the waits of a table

-- who waits is live, waits once, and is one of the table's processes
pub record HasLawfulWaits (s : TableState) : Type 0 where
  pub live : (w : Wait) → Among w s.waits → IsTrue (is_live s w.key)
  pub once : NoRepeat (map (λ w. w.key.process) s.waits)
  pub within : (w : Wait) → Among w s.waits → w.key.process < s.config.processes

pub lawful_waits : (t : Inside) (s : TableState) → IsConsistent t → state_of_records t ≡ s → WaitsAreLawful t.transactions → HasLawfulWaits s
lawful_waits t s fits is lawful = subst HasLawfulWaits is (record {
  live = lawful.live;
  once = lawful.once;
  within = λ w among. omega (arith, (lawful.in_range w among).0, fits.sizes.slots);
})

-- s with this key as the owner of r, which waits no longer
abbrev pub taken_over : TableState → ℕ → Key → TableState
taken_over s r key = activate (record s { owners = slice_set s.owners r (Some key) }) key.process

-- ---- the limit, by a walk through the queue

-- what holds of the process of each waiter
process_test : (f : ℕ → Bool) (ws : List Wait) → list_all (λ w. f w.key.process) ws ≡ list_all f (map process ws)
process_test f [] = refl
process_test f (w ∷ ws) = ap (λ b. f w.key.process && b) (process_test f ws)

-- behind the first, each has to fit
pub fits_behind : (s : TableState) (r h : ℕ) (others : List ℕ) → queued s r ≡ h ∷ others → hand_over_fits s r ≡ list_all (λ n. block_fits s n h) others
fits_behind s r h others = by (waiters_of s r)
  where
    by : (ws : List Wait) → map process ws ≡ h ∷ others → give_to_fits s ws ≡ list_all (λ n. block_fits s n h) others
    by [] is = (let never : [] ≡ h ∷ others = is in absurd (cc))
    by (first ∷ ws) is =
        let head : first.key.process ≡ h = (let both : first.key.process ∷ map process ws ≡ h ∷ others = is in cc) in
        let tail : map process ws ≡ others = (let both : first.key.process ∷ map process ws ≡ h ∷ others = is in cc) in
        ap (λ n. list_all (λ w. block_fits s w.key.process n) ws) head ∙ process_test (λ n. block_fits s n h) ws ∙ ap (list_all (λ n. block_fits s n h)) tail

-- the key of the first of a queue
pub record Leads (key : Key) (queue : List Wait) : Type 0 where
  pub wait : Wait
  pub others : List Wait
  pub queue_is : queue ≡ wait ∷ others
  pub key_is : wait.key ≡ key

leads : (key : Key) (queue : List Wait) → Some key ≡ first_key queue → Leads key queue
leads key [] first = (let never : Some key ≡ None = first in absurd (cc))
leads key (w ∷ others) first = record { wait = w; others = others; queue_is = refl; key_is = (let same : Some key ≡ Some w.key = first in cc) }

-- the first waiter for r
module _ (s : TableState) (r : ℕ) (key : Key) (first : Some key ≡ first_key (waiters_of s r)) (once : NoRepeat (map (λ w. w.key.process) s.waits)) where
  pub one : Leads key (waiters_of s r)
  one = leads key (waiters_of s r) first

  its_process : one.wait.key.process ≡ key.process
  its_process = ap (λ (k : Key). k.process) one.key_is

  -- it is among the waits
  among : Among one.wait s.waits
  among = (filter_gives (λ v. nat_eq v.resource r) s.waits one.wait (subst (Among one.wait) (sym one.queue_is) (inl refl))).0

  pub first_within : HasLawfulWaits s → key.process < s.config.processes
  first_within lawful = subst (λ (n : ℕ). n < s.config.processes) its_process (lawful.within one.wait among)

  pub first_lives : HasLawfulWaits s → IsTrue (is_live s key)
  first_lives lawful = subst (λ (k : Key). IsTrue (is_live s k)) one.key_is (lawful.live one.wait among)

  pub waiting : is_waiting s key.process ≡ true
  waiting = ap (λ o. is_some (option_map (λ (w : Wait). w.resource) o)) (found_by_number (λ (w : Wait). w.key.process) s.waits one.wait key.process once among its_process)

  pub apart : NoneIs key.process one.others
  apart = subst (λ n. NoneIs n one.others) its_process (none_is one.wait.key.process one.others (subst (λ (l : List Wait). NoRepeat (map (λ w. w.key.process) l)) one.queue_is (once_queue s r once)).0)

  -- the others stay in the queue
  pub left : (t : TableState) → t ≡ taken_over s r key → waiters_of t r ≡ one.others
  left t is =
      let n = key.process in
      let mine : is_of n one.wait ≡ true = eq-eqb one.wait.key.process n its_process in
      let stay : filter (λ w. not (is_of n w)) one.others ≡ one.others =
      filter_not (is_of n) one.others (all_map (λ (w : Wait). w.key.process ≢ n) (λ w. is_of n w ≡ false) (λ w other. ne_eqb w.key.process n other) one.others apart) in
      ap (λ u. waiters_of u r) is ∙ filter_swap (λ w. nat_eq w.resource r) (λ w. not (is_of n w)) s.waits ∙ ap (filter (λ w. not (is_of n w))) one.queue_is ∙ rw mine stay

  pub others_apart : (t : TableState) → t ≡ taken_over s r key → NoneIs key.process (waiters_of t r)
  others_apart t is = subst (NoneIs key.process) (sym (left t is)) apart

  pub others_fit : (t : TableState) → t ≡ taken_over s r key → IsTrue (hand_over_fits s r) → IsTrue (list_all (λ w. block_fits t w.key.process key.process) (waiters_of t r))
  others_fit t is fits =
      let all : IsTrue (list_all (λ w. block_fits s w.key.process one.wait.key.process) one.others) = subst (λ (l : List Wait). IsTrue (give_to_fits s l)) one.queue_is fits in
      let its = subst (λ (n : ℕ). IsTrue (list_all (λ w. block_fits s w.key.process n) one.others)) its_process all in
      subst (λ (l : List Wait). IsTrue (list_all (λ w. block_fits t w.key.process key.process) l)) (sym (left t is))
      (subst (λ (u : TableState). IsTrue (list_all (λ w. block_fits u w.key.process key.process) one.others)) (sym is) its)

  pub handed_over : (t : TableState) → t ≡ taken_over s r key → blocked_on t key.process (waiters_of t r) ≡ hand_over s r
  handed_over t is =
      ap (blocked_on t key.process) (left t is) ∙ ap (λ u. blocked_on u key.process one.others) is
      ∙ ap (λ k. blocked_on (taken_over s r k) k.process one.others) (sym one.key_is) ∙ ap (give_to s r) (sym one.queue_is)

  -- it was added to a set, and then all others were
  pub added_all : (t : TableState) → t ≡ taken_over s r key → (a b c : List Bool) → Adds key.process a b → AddsAll (waiters_of t r) b c → AddsAll (waiters_of s r) a c
  added_all t is a b c first others =
      subst (λ (ws : List Wait). AddsAll ws a c) (sym one.queue_is)
      (adds_first one.wait one.others a b c key.process its_process first (subst (λ (ws : List Wait). AddsAll ws b c) (left t is) others))

-- ---- the owner's resource is freed before the first waiter owns it

set_again : (os : List (Option Key)) (r : ℕ) (a b : Option Key) → slice_set (slice_set os r a) r b ≡ slice_set os r b
set_again [] r a b = refl
set_again (o ∷ os) zero a b = refl
set_again (o ∷ os) (suc r) a b = ap (λ xs. o ∷ xs) (set_again os r a b)

pub freed_then_owned : (old free waited t : TableState) (r : ℕ) (key : Key) → free ≡ record old { owners = slice_set old.owners r None } → waited ≡ activate free key.process
    → t ≡ record waited { owners = slice_set waited.owners r (Some key) } → t ≡ taken_over old r key
freed_then_owned old free waited t r key was left is =
    is ∙ ap (λ (s : TableState). record s { owners = slice_set s.owners r (Some key) }) (left ∙ ap (λ s. activate s key.process) was)
    ∙ ap (λ os. record (activate old key.process) { owners = os }) (set_again old.owners r None (Some key))
