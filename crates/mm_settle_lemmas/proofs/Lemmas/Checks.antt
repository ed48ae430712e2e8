-- The detects of those that are left to check are the detects of all that wait.
use Rattle.std.proofs.Common.{◌≡◌, ◌≢◌, ◌+◌, ◌-◌, ◌<◌, ◌≤◌, ◌&&◌, ℕ, Bool, true, false, not, List, [], ◌∷◌, None, length, filter, fold, count_by, slice_set, inl, inr, refl, sym, ap, ◌∙◌, arith, length-set, get_or-set_same}
use Rattle.std.specs.List.{range_with_len}
use Rattle.std.proofs.lemmas.Bool.{cases_Bool, cases_eq, cases_lt}
use Rattle.mm_lists.specs.Members.{Among}
use Rattle.mm_rules.specs.TableState.{TableState, has_verdict, holder_of, is_waiting, waiting_processes}
use Rattle.mm_rules.specs.Change.{can_transmit, can_detect, detect}
use Rattle.mm_rules.specs.Laws.{Laws}
use Rattle.mm_lists.proofs.Lemmas.Range.{among_range_gives}
use Rattle.mm_lists.proofs.Lemmas.Set.{true_within}
use Rattle.mm_rules.proofs.States.Counts.{detect_apart, verdicts_after, count_same}
use Rattle.mm_rules.proofs.States.Detect.{convicted, detect_still, detect_convicts, detect_keeps}
use Rattle.mm_bit_set.specs.BitSet.{has, HasNoneFrom, IsNextMember}
use Rattle.mm_settle_lemmas.specs.Steps.Pass.{ahead}
use Rattle.mm_settle_lemmas.specs.Steps.Detects.{IsDetecting, IsDetected}
use Rattle.mm_settle_lemmas.proofs.Lemmas.Frames.{idle_detects_not, not_waiting_idle}
use Rattle.mm_settle_lemmas.proofs.Lemmas.Skips.{one, count_first, skip_detects, skip_detects_then, skip_count, skip_count_then, ahead_split, between}
use Rattle.mm_settle_lemmas.proofs.Lemmas.Passes.{has_apart, has_cleared}

-- ---- what a detect does not touch

pub detect_holder : (s : TableState) (n k : ℕ) → holder_of (detect s n) k ≡ holder_of s k
detect_holder s n k = elim (cases_Bool (can_detect s n)) [
  | inl can ↦ ap (λ (t : TableState). holder_of t k) (detect_convicts s n can)
  | inr no_detect ↦ ap (λ (t : TableState). holder_of t k) (detect_still s n no_detect)
]

first_fails : (v a b : Bool) → v ≡ true → (not v && a && b) ≡ false
first_fails false a b given = absurd (cc)
first_fails true true true given = refl
first_fails true true false given = refl
first_fails true false true given = refl
first_fails true false false given = refl

-- who had its turn to detect cannot newly detect
pub detect_done : (s : TableState) (n : ℕ) → Laws s → n < s.config.processes → can_detect (detect s n) n ≡ false
detect_done s n laws inside = elim (cases_Bool (can_detect s n)) [
  | inl can ↦
      let given = get_or-set_same s.verdicts n true false (omega (arith, laws.lawful.well_formed.sizes.verdicts)) in
      ap (λ (t : TableState). can_detect t n) (detect_convicts s n can) ∙ first_fails (has_verdict (convicted s n) n) _ _ given
  | inr no_detect ↦ ap (λ (t : TableState). can_detect t n) (detect_still s n no_detect) ∙ no_detect
]

detect_transmits : (s : TableState) (n k : ℕ) → can_transmit (detect s n) k ≡ can_transmit s k
detect_transmits s n k = elim (cases_Bool (can_detect s n)) [
  | inl can ↦ ap (λ (t : TableState). can_transmit t k) (detect_convicts s n can)
  | inr no_detect ↦ ap (λ (t : TableState). can_transmit t k) (detect_still s n no_detect)
]

-- detects leave who can transmit
pub detects_transmit : (s : TableState) (ns : List ℕ) (k : ℕ) → can_transmit (fold detect s ns) k ≡ can_transmit s k
detects_transmit s [] k = refl
detects_transmit s (n ∷ ns) k = detects_transmit (detect s n) ns k ∙ detect_transmits s n k

detect_config : (s : TableState) (n : ℕ) → (detect s n).config ≡ s.config
detect_config s n = elim (cases_Bool (can_detect s n)) [
  | inl can ↦ ap (λ (t : TableState). t.config) (detect_convicts s n can)
  | inr no_detect ↦ ap (λ (t : TableState). t.config) (detect_still s n no_detect)
]

-- ---- all processes in place of those that wait

filter_detects : (p : ℕ → Bool) (s : TableState) (ns : List ℕ) → ((k : ℕ) → p k ≡ false → holder_of s k ≡ None) → fold detect s (filter p ns) ≡ fold detect s ns
filter_detects p s [] idle = refl
filter_detects p s (n ∷ ns) idle = elim (cases_Bool (p n)) [
  | inl yes_n ↦ rw yes_n (filter_detects p (detect s n) ns (λ k no_k. detect_holder s n k ∙ idle k no_k))
  | inr no_n ↦ rw no_n (filter_detects p s ns idle ∙ ap (λ t. fold detect t ns) (sym (detect_still s n (idle_detects_not s n (idle n no_n)))))
]

filter_count : (p q : ℕ → Bool) (ns : List ℕ) → ((k : ℕ) → p k ≡ false → q k ≡ false) → count_by q (filter p ns) ≡ count_by q ns
filter_count p q [] idle = refl
filter_count p q (n ∷ ns) idle =
    let rest = filter_count p q ns idle in
    elim (cases_Bool (p n)) [
      | inl yes_n ↦ rw yes_n (omega (arith, count_first q n (filter p ns), count_first q n ns, rest))
      | inr no_n ↦ rw no_n (omega (arith, count_first q n ns, ap one (idle n no_n), rest))
    ]

detects_of_all : (s : TableState) → fold detect s (ahead 0 s.config.processes) ≡ fold detect s (waiting_processes s)
detects_of_all s =
    let whole : s.config.processes - 0 ≡ s.config.processes = omega arith in
    ap (λ n. fold detect s (range_with_len 0 n)) whole
    ∙ sym (filter_detects (is_waiting s) s (range_with_len 0 s.config.processes) (not_waiting_idle s))

count_of_all : (s : TableState) → count_by (can_detect s) (ahead 0 s.config.processes) ≡ count_by (can_detect s) (waiting_processes s)
count_of_all s =
    let whole : s.config.processes - 0 ≡ s.config.processes = omega arith in
    ap (λ n. count_by (can_detect s) (range_with_len 0 n)) whole
    ∙ sym (filter_count (is_waiting s) (can_detect s) (range_with_len 0 s.config.processes) (λ k active. idle_detects_not s k (not_waiting_idle s k active)))

-- ---- the detects

pub detects_start : (s : TableState) (checks : List Bool) → Laws s → length checks ≡ s.config.processes
    → ((k : ℕ) → has checks k ≡ false → can_detect s k ≡ false) → IsDetecting s 0 0 checks s
detects_start s checks laws sized detects = record {
  state = detects_of_all s;
  counted = omega (arith, count_of_all s);
  detects = λ k low none. detects k none;
  below = λ k under. absurd (omega arith);
  done = λ k under. absurd (omega arith);
  laws = laws;
  config = refl;
  sized = sized;
  total = omega arith;
  few = omega arith;
  within = omega arith;
}

module _ (s : TableState) (from verdicts : ℕ) (checks : List Bool) (now : TableState)
    (way : IsDetecting s from verdicts checks now) (n : ℕ) (next : IsNextMember checks from n) where
  pub check_within : n < s.config.processes
  check_within = omega (arith, true_within checks n next.member, way.sized)

  skipped : (k : ℕ) → Among k (range_with_len from (n - from)) → can_detect now k ≡ false
  skipped k found =
      let both = between from n k next.at_least found in
      way.detects k both.0 (next.first k both.0 both.1)

  turn_state : fold detect now (ahead from s.config.processes) ≡ fold detect (detect now n) (ahead (n + 1) s.config.processes)
  turn_state = ap (fold detect now) (ahead_split from n s.config.processes next.at_least check_within)
      ∙ skip_detects_then now (range_with_len from (n - from)) (n ∷ ahead (n + 1) s.config.processes) skipped

  turn_count : count_by (can_detect now) (ahead from s.config.processes) ≡ one (can_detect now n) + count_by (can_detect (detect now n)) (ahead (n + 1) s.config.processes)
  turn_count = ap (count_by (can_detect now)) (ahead_split from n s.config.processes next.at_least check_within)
      ∙ skip_count_then (can_detect now) (range_with_len from (n - from)) (n ∷ ahead (n + 1) s.config.processes) skipped
      ∙ count_first (can_detect now) n (ahead (n + 1) s.config.processes)
      ∙ ap (λ m. one (can_detect now n) + m) (count_same (can_detect now) (can_detect (detect now n)) (ahead (n + 1) s.config.processes) (λ k found.
      let above : n + 1 ≤ k = (among_range_gives (n + 1) (s.config.processes - (n + 1)) k found).0 in
      sym (detect_apart now n k (λ e. absurd (omega arith)))))

  pub detects_next : IsDetecting s (n + 1) (verdicts + one (can_detect now n)) (slice_set checks n false) (detect now n)
  detects_next =
      let most : one (can_detect now n) ≤ 1 = at_most_one (can_detect now n) in
      record {
        state = sym turn_state ∙ way.state;
        counted = omega (arith, turn_count, way.counted);
        detects = λ k low none. let apart : k ≢ n = (λ e. absurd (omega arith)) in
            detect_apart now n k apart ∙ way.detects k (omega (arith, next.at_least)) (sym (has_apart checks n k false apart) ∙ none);
        below = λ k under. elim (cases_eq k n) [
          | inl e ↦ ap (has (slice_set checks n false)) e ∙ has_cleared checks n
          | inr apart ↦ has_apart checks n k false apart ∙ (elim (cases_lt k from) [
            | inl low ↦ way.below k low
            | inr high ↦ next.first k high (omega arith)
          ])
        ];
        done = λ k under. elim (cases_eq k n) [
          | inl e ↦ ap (can_detect (detect now n)) e ∙ detect_done now n way.laws (omega (arith, check_within, ap (λ c. c.processes) way.config))
          | inr apart ↦ detect_apart now n k apart ∙ (elim (cases_lt k from) [
            | inl low ↦ way.done k low
            | inr high ↦ way.detects k high (next.first k high (omega arith))
          ])
        ];
        laws = (detect_keeps now n way.laws).laws;
        config = detect_config now n ∙ way.config;
        sized = length-set checks n false ∙ way.sized;
        total = omega (arith, verdicts_after now n, way.total);
        few = omega (arith, way.few, next.at_least, most);
        within = omega (arith, check_within);
      }
    where
      at_most_one : (b : Bool) → one b ≤ 1
      at_most_one true = omega arith
      at_most_one false = omega arith

-- one turn of the detects, where n was taken from those to check
pub detects_turn : (s : TableState) (from verdicts : ℕ) (checks : List Bool) (now : TableState) → IsDetecting s from verdicts checks now
    → (n : ℕ) → IsNextMember checks from n → (convicted : Bool) (count : ℕ) (taken : List Bool) (new : TableState) → convicted ≡ can_detect now n
    → count ≡ verdicts + one convicted → taken ≡ slice_set checks n false → new ≡ detect now n → IsDetecting s (n + 1) count taken new
detects_turn s from verdicts checks now way n next convicted count taken new is counted cleared state =
    rw (state, cleared, counted, is) (detects_next s from verdicts checks now way n next)

pub detects_end : (s : TableState) (from verdicts : ℕ) (checks : List Bool) (now : TableState) → IsDetecting s from verdicts checks now
    → HasNoneFrom checks from → IsDetected s verdicts checks now
detects_end s from verdicts checks now way none =
    let idle : (k : ℕ) → Among k (ahead from s.config.processes) → can_detect now k ≡ false
    = λ k found. let low = (between from s.config.processes k way.within found).0 in way.detects k low (none k low) in
    record {
      state = sym (skip_detects now (ahead from s.config.processes) idle) ∙ way.state;
      counted = omega (arith, skip_count (can_detect now) (ahead from s.config.processes) idle, way.counted);
      none = λ k. elim (cases_lt k from) [ inl low ↦ way.below k low | inr high ↦ none k high ];
      done = λ k. elim (cases_lt k from) [ inl low ↦ way.done k low | inr high ↦ way.detects k high (none k high) ];
      sized = way.sized;
    }
