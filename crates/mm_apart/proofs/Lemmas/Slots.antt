-- What an event leaves of the slot of a process: whether it has a live key, and which.
use Rattle.std.proofs.Common.{◌≡◌, ◌≢◌, ◌&&◌, ◌+◌, ℕ, zero, suc, Bool, true, false, List, [], ◌∷◌, fold, Option, Some, None, Result, Ok, Err, MatchBool, IsTrue, nat_eq, nat_lt, slice_index, slice_index_or, inl, inr, refl, ap, ◌∙◌, get_or-set_other}
use Rattle.std.specs.Option.{option_map_or}
use Rattle.std.proofs.lemmas.Bool.{cases_Bool}
use Rattle.mm_label.specs.Label.{Label}
use Rattle.mm_arena.specs.declared.key.Key.{Key}
use Rattle.mm_rules.specs.declared.refusal.Refusal.{Refusal}
use Rattle.mm_rules.specs.declared.reply.Settled.{Settled}
use Rattle.mm_rules.specs.TableState.{TableState, is_live, waiting_processes, resources_of, wait_of}
use Rattle.mm_rules.specs.Change.{greater_label, transmit, can_detect, detect, swept, free_slot, vacate, vacate_fits, hand_over}
use Rattle.mm_rules.specs.Event.{Settle, Step, Gives, Settles, settled, decided, counts_exhausted}
use Rattle.mm_rules.specs.Laws.{Laws}
use Rattle.mm_rules.proofs.States.Transmit.{shown}
use Rattle.mm_rules.proofs.States.Detect.{detect_still, detect_convicts}
use Rattle.mm_rules.proofs.States.Vacate.{vacating_ends}
use Rattle.mm_settled.specs.Calls.{Rests}

-- process p has the same slot in both
pub record SameSlot (p : ℕ) (s t : TableState) : Type 0 where
  pub live : slice_index_or t.live p false ≡ slice_index_or s.live p false
  pub generation : slice_index t.generations p ≡ slice_index s.generations p

pub same_slot : (p : ℕ) (s : TableState) → SameSlot p s s
same_slot p s = record { live = refl; generation = refl }

pub slot_then : (p : ℕ) (a b c : TableState) → SameSlot p a b → SameSlot p b c → SameSlot p a c
slot_then p a b c first second = record { live = second.live ∙ first.live; generation = second.generation ∙ first.generation }

pub same_live : (s t : TableState) (k : Key) → SameSlot k.process s t → is_live t k ≡ is_live s k
same_live s t k same = λ i. same.live i && nat_eq (same.generation i) k.generation

-- ---- a settle

-- one change after the other
all_same : (p : ℕ) (change : TableState → ℕ → TableState) → ((s : TableState) (n : ℕ) → SameSlot p s (change s n)) → (s : TableState) (ns : List ℕ) → SameSlot p s (fold change s ns)
all_same p change each s [] = same_slot p s
all_same p change each s (n ∷ ns) = slot_then p s (change s n) (fold change (change s n) ns) (each s n) (all_same p change each (change s n) ns)

module _ (p : ℕ) where
  shown_same : (s : TableState) (n : ℕ) (o : Option Label) → SameSlot p s (option_map_or (shown s n) o s)
  shown_same s n None = same_slot p s
  shown_same s n (Some l) = record { live = refl; generation = refl }

  transmit_same : (s : TableState) (n : ℕ) → SameSlot p s (transmit s n)
  transmit_same s n = shown_same s n (greater_label s n)

  detect_same : (s : TableState) (n : ℕ) → SameSlot p s (detect s n)
  detect_same s n = elim (cases_Bool (can_detect s n)) [
    | inl can ↦ rw (detect_convicts s n can) record { live = refl; generation = refl }
    | inr still ↦ rw (detect_still s n still) (same_slot p s)
  ]

  swept_same : (s : TableState) (n : ℕ) → SameSlot p s (swept s n)
  swept_same s zero = same_slot p s
  swept_same s (suc n) = slot_then p s (swept s n) (swept s (suc n)) (swept_same s n) (all_same p transmit transmit_same (swept s n) (waiting_processes (swept s n)))

  decided_same : {A : Type 0} (r : Result (Unit {0}) Refusal) (old new : TableState) (answer : A) → SameSlot p old new → SameSlot p old (decided r old answer new).state
  decided_same (Err refusal) old new answer same = same_slot p old
  decided_same (Ok u) old new answer same = record { live = same.live; generation = same.generation }

  settled_same : (s : TableState) (n : ℕ) → SameSlot p s (settled s n).state
  settled_same s n = decided_same _ s _ _
      (slot_then p s (swept s n) (fold detect (swept s n) (waiting_processes (swept s n))) (swept_same s n) (all_same p detect detect_same (swept s n) (waiting_processes (swept s n))))

  settle_by : (old new : TableState) (reply : Result Settled Refusal) (b : Bool)
      → MatchBool b (Gives (settled old 0) reply new) ((n : ℕ) × Settles old n × Gives (settled old n) reply new) → SameSlot p old new
  settle_by old new reply true step = rw step.1 (settled_same old 0)
  settle_by old new reply false (n, settles, step) = rw step.1 (settled_same old n)

  pub settle_same : (old new : TableState) (reply : Result Settled Refusal) → Step Settle old reply new → SameSlot p old new
  settle_same old new reply step = settle_by old new reply (counts_exhausted old) step

  pub rests_same : (mid new : TableState) → Rests mid new → SameSlot p mid new
  rests_same mid new (inl same) = rw same (same_slot p mid)
  rests_same mid new (inr settle) = settle_same mid new (Ok settle.0) settle.1

-- ---- a slot is freed

pub freed_same : (p n : ℕ) (s : TableState) → p ≢ n → SameSlot p s (free_slot s n)
freed_same p n s apart = elim (cases_Bool (nat_lt (slice_index s.generations n) s.config.generation_limit)) [
  | inl more ↦ rw more record { live = get_or-set_other s.live n p false false apart; generation = get_or-set_other s.generations n p (slice_index s.generations n + 1) 0 apart }
  | inr last ↦ rw last record { live = get_or-set_other s.live n p false false apart; generation = refl }
]

pub vacated_same : (p n : ℕ) (s : TableState) → Laws s → wait_of s n ≡ None → IsTrue (vacate_fits s n) → p ≢ n → SameSlot p s (vacate s n)
vacated_same p n s laws active fits apart =
    let all = vacating_ends s n laws active fits in
    let handed : TableState = fold hand_over s (resources_of s n) in
    slot_then p s handed (vacate s n)
    (record { live = ap (λ (xs : List Bool). slice_index_or xs p false) all.live; generation = ap (λ (xs : List ℕ). slice_index xs p) all.generations })
    (freed_same p n handed apart)
