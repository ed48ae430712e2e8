-- Those that can do nothing may be passed over, and those that do not wait may be looked at: a sweep and the detects are those of all processes.
use Rattle.std.proofs.Common.{◌≡◌, ◌+◌, ◌-◌, ◌<◌, ◌≤◌, ◌++◌, ℕ, zero, suc, Bool, false, List, [], ◌∷◌, None, filter, fold, cond, if◌then◌else◌, count_by, inl, inr, refl, sym, ap, ◌∙◌, arith}
use Rattle.std.specs.List.{range_with_len}
use Rattle.std.proofs.lemmas.Bool.{cases_Bool}
use Rattle.std.proofs.lemmas.List.Sums.{sum_by-cons}
use Rattle.mm_lists.specs.Members.{Among}
use Rattle.mm_rules.specs.TableState.{TableState, holder_of, is_waiting}
use Rattle.mm_rules.specs.Change.{can_transmit, transmit, raises_along, can_detect, detect, sweep, sweep_raises}
use Rattle.mm_lists.proofs.Lemmas.Range.{among_range_gives}
use Rattle.mm_rules.proofs.States.Detect.{detect_still}
use Rattle.mm_settle_lemmas.specs.Steps.Pass.{ahead}
use Rattle.mm_settle_lemmas.proofs.Lemmas.Frames.{transmit_holder, cannot_still, idle_transmits_not, not_waiting_idle}

abbrev pub one : Bool → ℕ
one b = if b then 1 else 0

-- ---- transmits

-- where none of these can transmit, their turns change nothing
pub skip_state : (s : TableState) (ns : List ℕ) → ((k : ℕ) → Among k ns → can_transmit s k ≡ false) → fold transmit s ns ≡ s
skip_state s [] none = refl
skip_state s (n ∷ ns) none = ap (λ t. fold transmit t ns) (cannot_still s n (none n (inl refl))) ∙ skip_state s ns (λ k later. none k (inr later))

-- and raise nothing
pub skip_raises : (s : TableState) (ns : List ℕ) → ((k : ℕ) → Among k ns → can_transmit s k ≡ false) → raises_along s ns ≡ 0
skip_raises s [] none = refl
skip_raises s (n ∷ ns) none =
    let still : can_transmit s n ≡ false = none n (inl refl) in
    let same = ap (λ t. raises_along t ns) (cannot_still s n still) in
    let rest = skip_raises s ns (λ k later. none k (inr later)) in
    omega (arith, ap one still, same, rest)

pub skip_state_then : (s : TableState) (ns ms : List ℕ) → ((k : ℕ) → Among k ns → can_transmit s k ≡ false) → fold transmit s (ns ++ ms) ≡ fold transmit s ms
skip_state_then s [] ms none = refl
skip_state_then s (n ∷ ns) ms none =
    ap (λ t. fold transmit t (ns ++ ms)) (cannot_still s n (none n (inl refl))) ∙ skip_state_then s ns ms (λ k later. none k (inr later))

pub skip_raises_then : (s : TableState) (ns ms : List ℕ) → ((k : ℕ) → Among k ns → can_transmit s k ≡ false) → raises_along s (ns ++ ms) ≡ raises_along s ms
skip_raises_then s [] ms none = refl
skip_raises_then s (n ∷ ns) ms none =
    let still : can_transmit s n ≡ false = none n (inl refl) in
    let same = ap (λ t. raises_along t (ns ++ ms)) (cannot_still s n still) in
    let rest = skip_raises_then s ns ms (λ k later. none k (inr later)) in
    omega (arith, ap one still, same, rest)

-- ---- detects

pub skip_detects : (s : TableState) (ns : List ℕ) → ((k : ℕ) → Among k ns → can_detect s k ≡ false) → fold detect s ns ≡ s
skip_detects s [] none = refl
skip_detects s (n ∷ ns) none = ap (λ t. fold detect t ns) (detect_still s n (none n (inl refl))) ∙ skip_detects s ns (λ k later. none k (inr later))

pub skip_detects_then : (s : TableState) (ns ms : List ℕ) → ((k : ℕ) → Among k ns → can_detect s k ≡ false) → fold detect s (ns ++ ms) ≡ fold detect s ms
skip_detects_then s [] ms none = refl
skip_detects_then s (n ∷ ns) ms none =
    ap (λ t. fold detect t (ns ++ ms)) (detect_still s n (none n (inl refl))) ∙ skip_detects_then s ns ms (λ k later. none k (inr later))

pub count_first : (p : ℕ → Bool) (n : ℕ) (ns : List ℕ) → count_by p (n ∷ ns) ≡ one (p n) + count_by p ns
count_first p n ns = sum_by-cons (λ m. cond (p m) 1 0) n ns

pub skip_count : (p : ℕ → Bool) (ns : List ℕ) → ((k : ℕ) → Among k ns → p k ≡ false) → count_by p ns ≡ 0
skip_count p [] none = refl
skip_count p (n ∷ ns) none =
    let rest = skip_count p ns (λ k later. none k (inr later)) in
    omega (arith, count_first p n ns, ap one (none n (inl refl)), rest)

pub skip_count_then : (p : ℕ → Bool) (ns ms : List ℕ) → ((k : ℕ) → Among k ns → p k ≡ false) → count_by p (ns ++ ms) ≡ count_by p ms
skip_count_then p [] ms none = refl
skip_count_then p (n ∷ ns) ms none =
    let rest = skip_count_then p ns ms (λ k later. none k (inr later)) in
    omega (arith, count_first p n (ns ++ ms), ap one (none n (inl refl)), rest)

-- ---- all processes in place of those that wait

module _ (p : ℕ → Bool) where
  filter_transmits : (s : TableState) (ns : List ℕ) → ((k : ℕ) → p k ≡ false → holder_of s k ≡ None) → fold transmit s (filter p ns) ≡ fold transmit s ns
  filter_transmits s [] idle = refl
  filter_transmits s (n ∷ ns) idle = elim (cases_Bool (p n)) [
    | inl yes_n ↦ rw yes_n (filter_transmits (transmit s n) ns (λ k no_k. transmit_holder s n k ∙ idle k no_k))
    | inr no_n ↦ rw no_n (filter_transmits s ns idle ∙ ap (λ t. fold transmit t ns) (sym (cannot_still s n (idle_transmits_not s n (idle n no_n)))))
  ]

  filter_raises : (s : TableState) (ns : List ℕ) → ((k : ℕ) → p k ≡ false → holder_of s k ≡ None) → raises_along s (filter p ns) ≡ raises_along s ns
  filter_raises s [] idle = refl
  filter_raises s (n ∷ ns) idle = elim (cases_Bool (p n)) [
    | inl yes_n ↦ rw yes_n (ap (λ m. one (can_transmit s n) + m) (filter_raises (transmit s n) ns (λ k no_k. transmit_holder s n k ∙ idle k no_k)))
    | inr no_n ↦
        let still = idle_transmits_not s n (idle n no_n) in
        let same = ap (λ t. raises_along t ns) (cannot_still s n still) in
        let rest = filter_raises s ns idle in
        rw no_n (omega (arith, rest, same, ap one still))
  ]

pub sweep_of_all : (s : TableState) → fold transmit s (ahead 0 s.config.processes) ≡ sweep s
sweep_of_all s =
    let whole : s.config.processes - 0 ≡ s.config.processes = omega arith in
    ap (λ n. fold transmit s (range_with_len 0 n)) whole
    ∙ sym (filter_transmits (is_waiting s) s (range_with_len 0 s.config.processes) (not_waiting_idle s))

pub raises_of_all : (s : TableState) → raises_along s (ahead 0 s.config.processes) ≡ sweep_raises s
raises_of_all s =
    let whole : s.config.processes - 0 ≡ s.config.processes = omega arith in
    ap (λ n. raises_along s (range_with_len 0 n)) whole
    ∙ sym (filter_raises (is_waiting s) s (range_with_len 0 s.config.processes) (not_waiting_idle s))

-- ---- the processes from one place on

range_split : (a m r : ℕ) → range_with_len a (m + r) ≡ range_with_len a m ++ range_with_len (a + m) r
range_split a zero r =
    let len : 0 + r ≡ r = omega arith in
    let start : a ≡ a + 0 = omega arith in
    λ i. range_with_len (start i) (len i)
range_split a (suc m) r =
    let len : suc m + r ≡ suc (m + r) = omega arith in
    let start : (a + 1) + m ≡ a + suc m = omega arith in
    ap (range_with_len a) len ∙ ap (λ ns. a ∷ ns) (range_split (a + 1) m r) ∙ ap (λ b. a ∷ range_with_len (a + 1) m ++ range_with_len b r) start

pub ahead_split : (from n processes : ℕ) → from ≤ n → n < processes → ahead from processes ≡ range_with_len from (n - from) ++ n ∷ ahead (n + 1) processes
ahead_split from n processes low inside =
    let len : processes - from ≡ (n - from) + suc (processes - (n + 1)) = omega arith in
    let start : from + (n - from) ≡ n = omega arith in
    ap (range_with_len from) len ∙ range_split from (n - from) (suc (processes - (n + 1)))
    ∙ ap (λ a. range_with_len from (n - from) ++ range_with_len a (suc (processes - (n + 1)))) start

pub between : (from n k : ℕ) → from ≤ n → Among k (range_with_len from (n - from)) → (from ≤ k) × (k < n)
between from n k low found =
    let both = among_range_gives from (n - from) k found in
    (both.0, omega arith)
