-- Labels and waits: no event but a wait for a lock raises the counter of a public label with one more for each wait.
use Rattle.std.proofs.Common.{◌≡◌, ◌≢◌, ◌≤◌, ◌+◌, ◌-◌, ℕ, zero, suc, Bool, false, not, List, [], ◌∷◌, ◌++◌, length, map, filter, fold, Option, Some, None, if◌then◌else◌, inl, inr, refl, sym, ap, subst, ◌∙◌, arith, slice_set, slice_index, nat_eq, nat_lt, option_and_then, length-set, get_or-set_same, get_or-set_other, length-append, ◌⊎◌}
use Rattle.std.specs.Option.{option_map_or}
use Rattle.std.proofs.lemmas.Bool.{cases_Bool, cases_eq, cases_lt, eq-eqb}
use Rattle.std.proofs.lemmas.List.{get_or_past}
use Rattle.mm_label.specs.Label.{Label, label_lt, opening_label}
use Rattle.mm_lists.specs.Members.{Among, NoRepeat}
use Rattle.mm_lists.proofs.Lemmas.Filter.{filter_gives}
use Rattle.mm_lists.proofs.Lemmas.NoRepeat.{no_repeat_filter}
use Rattle.mm_rules.specs.TableState.{TableState, Wait, is_of, public_of, holder_of, waiters_of, waiting_processes}
use Rattle.mm_rules.specs.Change.{label_against, block, activate, give_to, hand_over, free_slot, transmit, can_detect, detect, swept}
use Rattle.mm_rules.proofs.States.Block.{process_of, blocked_all}
use Rattle.mm_rules.proofs.States.Relabels.{other_labels}
use Rattle.mm_manager.specs.private.Room.{LabelsWithin}

-- ---- blocks

-- the label that n gets is that by which it waits, or nothing changes
pub block_here : (s : TableState) (n h : ℕ) → (public_of (block s n h) n).counter ≤ (label_against s n h).counter
block_here s n h = elim (cases_lt n (length s.public)) [
  | inl within ↦ omega (arith, ap (λ (l : Label). l.counter) (get_or-set_same s.public n (label_against s n h) (opening_label n) within))
  | inr past ↦ omega (arith, ap (λ (l : Label). l.counter) (get_or_past (slice_set s.public n (label_against s n h)) n (opening_label n) (omega (arith, past, length-set s.public n (label_against s n h)))))
]

pub block_else : (s : TableState) (n h k : ℕ) → k ≢ n → (public_of (block s n h) k).counter ≡ (public_of s k).counter
block_else s n h k apart = ap (λ (l : Label). l.counter) (other_labels s n h k apart).public

-- several block on h, whose own label stays: no counter passes the greatest by more than one
blocked_within : (most h : ℕ) (ws : List Wait) (s : TableState) → NoRepeat (map process_of ws) → ¬ Among h (map process_of ws)
    → ((p : ℕ) → (public_of s p).counter ≤ most + 1) → (public_of s h).counter ≤ most → ((p : ℕ) → Among p (map process_of ws) → (public_of s p).counter ≤ most)
    → (p : ℕ) → (public_of (blocked_all s h ws) p).counter ≤ most + 1
blocked_within most h [] s once other all own each p = all p
blocked_within most h (w ∷ ws) s once other all own each p =
    let n = w.key.process in
    blocked_within most h ws (block s n h) once.1 (λ later. other (inr later))
    (λ q. elim (cases_eq q n) [
      | inl same ↦
          let here : (public_of (block s n h) n).counter ≤ (label_against s n h).counter = block_here s n h in
          let mine : (public_of s n).counter ≤ most = each n (inl refl) in
          omega (arith, here, mine, own, ap (λ m. (public_of (block s n h) m).counter) same)
      | inr apart ↦ omega (arith, block_else s n h q apart, all q)
    ])
    (omega (arith, block_else s n h h (λ same. other (inl same)), own))
    (λ q later. omega (arith, block_else s n h q (λ same. once.0 (subst (λ m. Among m (map process_of ws)) same later)), each q (inr later)))
    p

pub blocked_waits : (s : TableState) (h : ℕ) (ws : List Wait) → (blocked_all s h ws).waits ≡ s.waits
blocked_waits s h [] = refl
blocked_waits s h (w ∷ ws) = blocked_waits (block s w.key.process h) h ws

-- ---- a wait that ends

length_filter_le : {X : Type 0} (p : X → Bool) (xs : List X) → length (filter p xs) ≤ length xs
length_filter_le p [] = omega arith
length_filter_le p (x ∷ xs) = elim (cases_Bool (p x)) [
  | inl kept ↦ rw kept (omega (arith, length_filter_le p xs))
  | inr out ↦ rw out (omega (arith, length_filter_le p xs))
]

length_filter_less : {X : Type 0} (p : X → Bool) (xs : List X) (x : X) → Among x xs → p x ≡ false → length (filter p xs) + 1 ≤ length xs
length_filter_less p [] x among out = absurd among
length_filter_less p (y ∷ xs) x (inl same) out = rw (ap p (sym same) ∙ out) (omega (arith, length_filter_le p xs))
length_filter_less p (y ∷ xs) x (inr later) out = elim (cases_Bool (p y)) [
  | inl kept ↦ rw kept (omega (arith, length_filter_less p xs x later out))
  | inr gone ↦ rw gone (omega (arith, length_filter_less p xs x later out))
]

pub activate_fewer : (s : TableState) (w : Wait) → Among w s.waits → length (activate s w.key.process).waits + 1 ≤ length s.waits
activate_fewer s w among = length_filter_less (λ v. not (is_of w.key.process v)) s.waits w among (ap not (eq-eqb w.key.process w.key.process refl))

pub activate_no_more : (s : TableState) (n : ℕ) → length (activate s n).waits ≤ length s.waits
activate_no_more s n = length_filter_le (λ v. not (is_of n v)) s.waits

-- ---- a hand-over

abbrev Once : TableState → Type 0
Once s = NoRepeat (map process_of s.waits)

-- from s to u no label passes what the waits that ended leave room for, and each process waits once still
pub record KeepsLabels (s u : TableState) : Type 0 where
  pub within : (most : ℕ) → LabelsWithin s most → LabelsWithin u most
  pub once : Once u

give_to_keeps : (s : TableState) (r : ℕ) (ws : List Wait) → Once s → waiters_of s r ≡ ws → KeepsLabels s (give_to s r ws)
give_to_keeps s r [] once are = record { within = λ most labels. labels; once = once }
give_to_keeps s r (first ∷ others) once are =
    let n = first.key.process in
    let t = activate (record s { owners = slice_set s.owners r (Some first.key) }) n in
    let waiting : Among first s.waits = (filter_gives (λ w. nat_eq w.resource r) s.waits first (subst (Among first) (sym are) (inl refl))).0 in
    let fewer : length t.waits + 1 ≤ length s.waits = activate_fewer s first waiting in
    let apart : NoRepeat (map process_of (first ∷ others)) = subst (λ ws. NoRepeat (map process_of ws)) are (no_repeat_filter process_of (λ w. nat_eq w.resource r) s.waits once) in
    record {
      within = λ most labels p.
          let low : (q : ℕ) → (public_of s q).counter ≤ most - length s.waits = λ q. omega (arith, labels q) in
          let now : (public_of (blocked_all t n others) p).counter ≤ (most - length s.waits) + 1
          = blocked_within (most - length s.waits) n others t apart.1 apart.0 (λ q. omega (arith, low q)) (low n) (λ q among. low q) p in
          omega (arith, now, labels p, fewer, ap length (blocked_waits t n others));
      once = subst (λ ws. NoRepeat (map process_of ws)) (sym (blocked_waits t n others)) (no_repeat_filter process_of (λ w. not (is_of n w)) s.waits once);
    }

pub hand_over_keeps_labels : (s : TableState) (r : ℕ) → Once s → KeepsLabels s (hand_over s r)
hand_over_keeps_labels s r once = give_to_keeps s r (waiters_of s r) once refl

pub hand_overs_keep_labels : (s : TableState) (rs : List ℕ) → Once s → KeepsLabels s (fold hand_over s rs)
hand_overs_keep_labels s [] once = record { within = λ most labels. labels; once = once }
hand_overs_keep_labels s (r ∷ rs) once =
    let first = hand_over_keeps_labels s r once in
    let rest = hand_overs_keep_labels (hand_over s r) rs first.once in
    record { within = λ most labels. rest.within most (first.within most labels); once = rest.once }

free_slot_within : (s : TableState) (n most : ℕ) → LabelsWithin s most → LabelsWithin (free_slot s n) most
free_slot_within s n most labels = elim (cases_Bool (nat_lt (slice_index s.generations n) s.config.generation_limit)) [
  | inl again ↦ rw again labels
  | inr spent ↦ rw spent labels
]

pub vacate_within : (s : TableState) (n most : ℕ) (rs : List ℕ) → Once s → LabelsWithin s most → LabelsWithin (free_slot (fold hand_over s rs) n) most
vacate_within s n most rs once labels = free_slot_within (fold hand_over s rs) n most ((hand_overs_keep_labels s rs once).within most labels)

pub activate_within : (s : TableState) (n most : ℕ) → LabelsWithin s most → LabelsWithin (activate s n) most
activate_within s n most labels p = omega (arith, labels p, activate_no_more s n)

-- ---- a settle

-- what the greater label is, by the holder
abbrev greater_of : TableState → ℕ → Option ℕ → Option Label
greater_of s n o = option_and_then (λ h. if label_lt (public_of s n) (public_of s h) then Some (public_of s h) else None) o

abbrev shown_or : TableState → ℕ → Option Label → TableState
shown_or s n o = option_map_or (λ l. record s { public = slice_set s.public n l }) o s

shown_counter : (s : TableState) (n h p : ℕ) → ((public_of (record s { public = slice_set s.public n (public_of s h) }) p).counter ≡ (public_of s p).counter)
    ⊎ ((public_of (record s { public = slice_set s.public n (public_of s h) }) p).counter ≤ (public_of s h).counter)
shown_counter s n h p = elim (cases_eq p n) [
  | inr apart ↦ inl (ap (λ (l : Label). l.counter) (get_or-set_other s.public n p (public_of s h) (opening_label p) apart))
  | inl same ↦ elim (cases_lt n (length s.public)) [
    | inl within ↦ inr (omega (
      arith,
      ap (λ m. (public_of (record s { public = slice_set s.public n (public_of s h) }) m).counter) same,
      ap (λ (l : Label). l.counter) (get_or-set_same s.public n (public_of s h) (opening_label n) within),
    ))
    | inr past ↦ inr (omega (
      arith,
      ap (λ m. (public_of (record s { public = slice_set s.public n (public_of s h) }) m).counter) same,
      ap (λ (l : Label). l.counter) (get_or_past (slice_set s.public n (public_of s h)) n (opening_label n) (omega (arith, past, length-set s.public n (public_of s h)))),
    ))
  ]
]

shown_within : (s : TableState) (n most : ℕ) (o : Option ℕ) → LabelsWithin s most → LabelsWithin (shown_or s n (greater_of s n o)) most
shown_within s n most None labels = labels
shown_within s n most (Some h) labels = elim (cases_Bool (label_lt (public_of s n) (public_of s h))) [
  | inr above ↦ rw above labels
  | inl lower ↦ rw lower (λ p. elim (shown_counter s n h p) [
    | inl same ↦ omega (arith, same, labels p)
    | inr low ↦ omega (arith, low, labels h)
  ])
]

transmits_within : (s : TableState) (most : ℕ) (ns : List ℕ) → LabelsWithin s most → LabelsWithin (fold transmit s ns) most
transmits_within s most [] labels = labels
transmits_within s most (n ∷ ns) labels = transmits_within (transmit s n) most ns (shown_within s n most (holder_of s n) labels)

swept_within : (s : TableState) (most n : ℕ) → LabelsWithin s most → LabelsWithin (swept s n) most
swept_within s most zero labels = labels
swept_within s most (suc n) labels = transmits_within (swept s n) most (waiting_processes (swept s n)) (swept_within s most n labels)

detect_within : (s : TableState) (n most : ℕ) → LabelsWithin s most → LabelsWithin (detect s n) most
detect_within s n most labels = elim (cases_Bool (can_detect s n)) [
  | inl can ↦ rw can labels
  | inr no_detect ↦ rw no_detect labels
]

detects_within : (s : TableState) (most : ℕ) (ns : List ℕ) → LabelsWithin s most → LabelsWithin (fold detect s ns) most
detects_within s most [] labels = labels
detects_within s most (n ∷ ns) labels = detects_within (detect s n) most ns (detect_within s n most labels)

pub settled_within : (s : TableState) (most n : ℕ) → LabelsWithin s most → LabelsWithin (fold detect (swept s n) (waiting_processes (swept s n))) most
settled_within s most n labels = detects_within (swept s n) most (waiting_processes (swept s n)) (swept_within s most n labels)

-- ---- a wait for a lock

pub waits_within : (s : TableState) (w : Wait) (h most : ℕ) → LabelsWithin s most → LabelsWithin (block (record s { waits = s.waits ++ w ∷ [] }) w.key.process h) (most + 2)
waits_within s w h most labels p =
    let n = w.key.process in
    let t = record s { waits = s.waits ++ w ∷ [] } in
    let longer : length (s.waits ++ w ∷ []) ≡ length s.waits + 1 = omega (arith, length-append s.waits (w ∷ [])) in
    elim (cases_eq p n) [
      | inl same ↦ omega (arith, block_here t n h, labels n, labels h, longer, ap (λ m. (public_of (block t n h) m).counter) same)
      | inr apart ↦ omega (arith, block_else t n h p apart, labels p, longer)
    ]
