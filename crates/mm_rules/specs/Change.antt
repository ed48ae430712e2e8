-- How events change a table. What is not named stays.
use Rattle.std.specs.Prelude.{ℕ, zero, suc, ◌+◌, Bool, true, false, ◌&&◌, not, if◌then◌else◌, List, [], ◌∷◌, Option, Some, None, option_and_then, is_some, filter, fold, nat_lt, nat_le, slice_index, slice_set}
use Rattle.std.specs.Option.{option_map_or}
use Rattle.std.specs.List.{list_all}
use Rattle.mm_label.specs.Label.{Label, label_lt, label_eq, fresh_label}
use Rattle.mm_rules.specs.TableState.{TableState, Wait, private_of, public_of, has_verdict, holder_of, is_of, waiters_of, resources_of, waiting_processes}

-- ---- block, activate, hand over

-- the label that process n gets by waiting for process h
abbrev pub label_against : TableState → ℕ → ℕ → Label
label_against s n h = fresh_label (public_of s n) (public_of s h) n

-- n waits for h from now on: both its labels are new
abbrev pub block : TableState → ℕ → ℕ → TableState
block s n h = record s { private = slice_set s.private n (label_against s n h); public = slice_set s.public n (label_against s n h) }

-- n waits no longer; its labels stay
abbrev pub activate : TableState → ℕ → TableState
activate s n = record s { waits = filter (λ w. not (is_of n w)) s.waits }

-- resource r goes to the first of these waiters; each other one keeps its place and is blocked on the new owner
abbrev pub give_to : TableState → ℕ → List Wait → TableState
give_to s r [] = record s { owners = slice_set s.owners r None }
give_to s r (first ∷ others) =
    let owned = record s { owners = slice_set s.owners r (Some first.key) } in
    fold (λ t w. block t w.key.process first.key.process) (activate owned first.key.process) others

-- the longest waiter becomes the owner of r, or r is free
abbrev pub hand_over : TableState → ℕ → TableState
hand_over s r = give_to s r (waiters_of s r)

-- ---- vacate, abort

-- process n is the first of the free ones, under its next generation; at the last generation it is retired
abbrev pub free_slot : TableState → ℕ → TableState
free_slot s n =
    let generation = slice_index s.generations n in
    let left = record s { live = slice_set s.live n false } in
    if nat_lt generation s.config.generation_limit
    then record left { generations = slice_set s.generations n (generation + 1); free = n ∷ s.free }
    else left

-- process n hands over all that it owns, in rising order, and is freed
abbrev pub vacate : TableState → ℕ → TableState
vacate s n = free_slot (fold hand_over s (resources_of s n)) n

-- n's wait and its verdict go, and this is counted as an abort
abbrev pub take_back : TableState → ℕ → TableState
take_back s n = record (activate s n) { verdicts = slice_set s.verdicts n false; totals = record s.totals { aborts = s.totals.aborts + 1 } }

abbrev pub abort : TableState → ℕ → TableState
abort s n = vacate (take_back s n) n

-- ---- transmit, detect

-- the public label of n's holder, if that is greater than n's own
abbrev pub greater_label : TableState → ℕ → Option Label
greater_label s n = option_and_then (λ h. if label_lt (public_of s n) (public_of s h) then Some (public_of s h) else None) (holder_of s n)

abbrev pub can_transmit : TableState → ℕ → Bool
can_transmit s n = is_some (greater_label s n)

-- the greater label of its holder becomes n's public one; its private label stays
abbrev pub transmit : TableState → ℕ → TableState
transmit s n = option_map_or (λ l. record s { public = slice_set s.public n l }) (greater_label s n) s

-- n has no verdict yet, and its private label, its public one and its holder's public one are one label
abbrev pub can_detect : TableState → ℕ → Bool
can_detect s n =
    not (has_verdict s n) && label_eq (private_of s n) (public_of s n)
    && option_map_or (λ h. label_eq (public_of s n) (public_of s h)) (holder_of s n) false

-- if n can detect, its key gets a verdict, and this is counted
abbrev pub detect : TableState → ℕ → TableState
detect s n =
    if can_detect s n
    then record s { verdicts = slice_set s.verdicts n true; totals = record s.totals { verdicts = s.totals.verdicts + 1 } }
    else s

-- ---- settle

-- each waiting process in turn transmits if it can
abbrev pub sweep : TableState → TableState
sweep s = fold transmit s (waiting_processes s)

-- how many of these, in turn, can transmit
abbrev pub raises_along : TableState → List ℕ → ℕ
raises_along s [] = 0
raises_along s (n ∷ ns) = (if can_transmit s n then 1 else 0) + raises_along (transmit s n) ns

abbrev pub sweep_raises : TableState → ℕ
sweep_raises s = raises_along s (waiting_processes s)

-- the state after a number of sweeps, and how many labels they raised
abbrev pub swept : TableState → ℕ → TableState
swept s zero = s
swept s (suc n) = sweep (swept s n)

abbrev pub total_raises : TableState → ℕ → ℕ
total_raises s zero = 0
total_raises s (suc n) = total_raises s n + sweep_raises (swept s n)

-- ---- the label limit

-- whether the limit allows the label that n gets by waiting for h
abbrev pub block_fits : TableState → ℕ → ℕ → Bool
block_fits s n h = nat_le (label_against s n h).counter s.config.label_limit

abbrev pub give_to_fits : TableState → List Wait → Bool
give_to_fits s [] = true
give_to_fits s (first ∷ others) = list_all (λ w. block_fits s w.key.process first.key.process) others

-- whether the limit allows each label that the hand-over of r makes
abbrev pub hand_over_fits : TableState → ℕ → Bool
hand_over_fits s r = give_to_fits s (waiters_of s r)

-- whether the limit allows each label that is made when n hands over all that it owns
abbrev pub vacate_fits : TableState → ℕ → Bool
vacate_fits s n = list_all (hand_over_fits s) (resources_of s n)
