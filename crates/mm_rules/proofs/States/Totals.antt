-- What each change leaves of the counts.
use Rattle.std.proofs.Common.{◌≡◌, ℕ, zero, suc, List, [], ◌∷◌, fold, slice_index, slice_set, nat_lt, Option, Some, None, refl, ap, ◌∙◌, inl, inr}
use Rattle.std.specs.Option.{option_map_or}
use Rattle.std.proofs.lemmas.Bool.{cases_Bool}
use Rattle.mm_label.specs.Label.{Label}
use Rattle.mm_rules.specs.TableState.{TableState, Wait, waiters_of, waiting_processes, resources_of}
use Rattle.mm_rules.specs.Change.{activate, block, give_to, hand_over, free_slot, vacate, greater_label, transmit, can_detect, detect, swept}
use Rattle.mm_rules.specs.Stages.{blocked_on, IsSwept}
use Rattle.mm_rules.proofs.States.Transmit.{shown}
use Rattle.mm_rules.proofs.States.Detect.{detect_still, detect_convicts}

-- ---- a hand-over counts nothing

blocks_totals : (s : TableState) (h : ℕ) (ws : List Wait) → (blocked_on s h ws).totals ≡ s.totals
blocks_totals s h [] = refl
blocks_totals s h (w ∷ ws) = blocks_totals (block s w.key.process h) h ws

give_totals : (s : TableState) (r : ℕ) (ws : List Wait) → (give_to s r ws).totals ≡ s.totals
give_totals s r [] = refl
give_totals s r (f ∷ others) = blocks_totals (activate (record s { owners = slice_set s.owners r (Some f.key) }) f.key.process) f.key.process others

pub hand_over_totals : (s : TableState) (r : ℕ) → (hand_over s r).totals ≡ s.totals
hand_over_totals s r = give_totals s r (waiters_of s r)

-- ---- nor does a vacate

all_totals : (s : TableState) (rs : List ℕ) → (fold hand_over s rs).totals ≡ s.totals
all_totals s [] = refl
all_totals s (r ∷ rs) = all_totals (hand_over s r) rs ∙ hand_over_totals s r

free_slot_totals : (s : TableState) (n : ℕ) → (free_slot s n).totals ≡ s.totals
free_slot_totals s n = elim (cases_Bool (nat_lt (slice_index s.generations n) s.config.generation_limit)) [ inl again ↦ rw again refl | inr spent ↦ rw spent refl ]

pub vacate_totals : (s : TableState) (n : ℕ) → (vacate s n).totals ≡ s.totals
vacate_totals s n = free_slot_totals (fold hand_over s (resources_of s n)) n ∙ all_totals s (resources_of s n)

-- ---- sweeps count nothing, and detects no accepted event and no abort

shown_totals : (s : TableState) (n : ℕ) (o : Option Label) → (option_map_or (shown s n) o s).totals ≡ s.totals
shown_totals s n None = refl
shown_totals s n (Some l) = refl

pub transmit_totals : (s : TableState) (n : ℕ) → (transmit s n).totals ≡ s.totals
transmit_totals s n = shown_totals s n (greater_label s n)

transmits_totals : (s : TableState) (ns : List ℕ) → (fold transmit s ns).totals ≡ s.totals
transmits_totals s [] = refl
transmits_totals s (n ∷ ns) = transmits_totals (transmit s n) ns ∙ transmit_totals s n

pub swept_totals : (s : TableState) (n : ℕ) → (swept s n).totals ≡ s.totals
swept_totals s zero = refl
swept_totals s (suc n) = transmits_totals (swept s n) (waiting_processes (swept s n)) ∙ swept_totals s n

pub sweeps_totals : (old : TableState) (raises : ℕ) (mid : TableState) → IsSwept old raises mid → mid.totals ≡ old.totals
sweeps_totals old raises mid all = ap (λ (s : TableState). s.totals) all.state ∙ swept_totals old all.sweeps

detect_accepted : (s : TableState) (n : ℕ) → (detect s n).totals.accepted ≡ s.totals.accepted
detect_accepted s n = elim (cases_Bool (can_detect s n)) [
  | inl can ↦ ap (λ (t : TableState). t.totals.accepted) (detect_convicts s n can)
  | inr no_detect ↦ ap (λ (t : TableState). t.totals.accepted) (detect_still s n no_detect)
]

pub detects_accepted : (s : TableState) (ns : List ℕ) → (fold detect s ns).totals.accepted ≡ s.totals.accepted
detects_accepted s [] = refl
detects_accepted s (n ∷ ns) = detects_accepted (detect s n) ns ∙ detect_accepted s n

detect_aborts : (s : TableState) (n : ℕ) → (detect s n).totals.aborts ≡ s.totals.aborts
detect_aborts s n = elim (cases_Bool (can_detect s n)) [
  | inl can ↦ ap (λ (t : TableState). t.totals.aborts) (detect_convicts s n can)
  | inr no_detect ↦ ap (λ (t : TableState). t.totals.aborts) (detect_still s n no_detect)
]

pub detects_aborts : (s : TableState) (ns : List ℕ) → (fold detect s ns).totals.aborts ≡ s.totals.aborts
detects_aborts s [] = refl
detects_aborts s (n ∷ ns) = detects_aborts (detect s n) ns ∙ detect_aborts s n
