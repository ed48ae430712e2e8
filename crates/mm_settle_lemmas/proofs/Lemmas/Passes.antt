-- A sweep that looks at the pending alone is the definition's sweep: its start, the two kinds of turn, and its end.
use Rattle.std.proofs.Common.{◌≡◌, ◌≢◌, ◌⊎◌, ◌+◌, ◌-◌, ◌<◌, ◌≤◌, ℕ, Bool, true, false, List, ◌∷◌, Some, length, fold, slice_set, inl, inr, refl, sym, ap, ◌∙◌, arith, length-set, get_or-set_same, get_or-set_other}
use Rattle.std.specs.List.{range_with_len}
use Rattle.std.proofs.lemmas.Bool.{cases_Bool, cases_eq, cases_lt}
use Rattle.std.proofs.lemmas.List.{get_or_past}
use Rattle.mm_lists.specs.Members.{Among}
use Rattle.mm_rules.specs.TableState.{TableState, holder_of}
use Rattle.mm_rules.specs.Change.{can_transmit, transmit, raises_along, can_detect, sweep, sweep_raises}
use Rattle.mm_lists.proofs.Lemmas.Set.{true_within}
use Rattle.mm_rules.proofs.States.Transmit.{transmit_keeps}
use Rattle.mm_bit_set.specs.BitSet.{has, HasNoneFrom, IsNextMember}
use Rattle.mm_settle_lemmas.specs.Steps.Pass.{ahead, IsPassing, IsPassed}
use Rattle.mm_settle_lemmas.specs.Steps.Marked.{AddsWaiters, AreMarked}
use Rattle.mm_settle_lemmas.proofs.Lemmas.Frames.{transmit_config, transmit_holder, transmit_frame, detect_frame, cannot_still, risen_transmits_not, risen_detects_not}
use Rattle.mm_settle_lemmas.proofs.Lemmas.Skips.{one, skip_state, skip_raises, skip_state_then, skip_raises_then, sweep_of_all, raises_of_all, ahead_split, between}

-- ---- sets

pub has_apart : (marks : List Bool) (n k : ℕ) (b : Bool) → k ≢ n → has (slice_set marks n b) k ≡ has marks k
has_apart marks n k b apart = get_or-set_other marks n k b false apart

pub has_added : (marks : List Bool) (n : ℕ) → n < length marks → has (slice_set marks n true) n ≡ true
has_added marks n within = get_or-set_same marks n true false within

pub has_cleared : (marks : List Bool) (n : ℕ) → has (slice_set marks n false) n ≡ false
has_cleared marks n = elim (cases_lt n (length marks)) [
  | inl inside ↦ get_or-set_same marks n false false inside
  | inr past ↦ get_or_past (slice_set marks n false) n false (omega (arith, length-set marks n false))
]

-- who is not in the set without n is n, or was not in it before
pub not_cleared : (marks : List Bool) (n k : ℕ) → has (slice_set marks n false) k ≡ false → (k ≡ n) ⊎ (has marks k ≡ false)
not_cleared marks n k none = elim (cases_eq k n) [
  | inl e ↦ inl e
  | inr apart ↦ inr (sym (has_apart marks n k false apart) ∙ none)
]

-- ---- what is left of a list of turns

module _ (s : TableState) (processes from n : ℕ) (low : from ≤ n) (inside : n < processes)
    (before : (k : ℕ) → from ≤ k → k < n → can_transmit s k ≡ false) where
  none_of_skipped : (k : ℕ) → Among k (range_with_len from (n - from)) → can_transmit s k ≡ false
  none_of_skipped k found = let both = between from n k low found in before k both.0 both.1

  -- the first that can transmit, or may, has its turn next
  pub next_state : fold transmit s (ahead from processes) ≡ fold transmit (transmit s n) (ahead (n + 1) processes)
  next_state = ap (fold transmit s) (ahead_split from n processes low inside) ∙ skip_state_then s (range_with_len from (n - from)) (n ∷ ahead (n + 1) processes) none_of_skipped

  pub next_raises : raises_along s (ahead from processes) ≡ one (can_transmit s n) + raises_along (transmit s n) (ahead (n + 1) processes)
  next_raises = ap (raises_along s) (ahead_split from n processes low inside) ∙ skip_raises_then s (range_with_len from (n - from)) (n ∷ ahead (n + 1) processes) none_of_skipped

-- ---- one pass

pub pass_starts : (s : TableState) (pending checks : List Bool) → AreMarked s pending checks → IsPassing s 0 0 pending checks s
pass_starts s pending checks marked = record {
  state = sweep_of_all s;
  raised = omega (arith, raises_of_all s);
  marked = marked;
  below = λ none k under. absurd (omega arith);
  config = refl;
  few = omega arith;
  within = omega arith;
}

module _ (s : TableState) (from raises : ℕ) (pending checks : List Bool) (now : TableState)
    (way : IsPassing s from raises pending checks now) (n : ℕ) (next : IsNextMember pending from n) where
  pub next_within : n < s.config.processes
  next_within = omega (arith, true_within pending n next.member, way.marked.pending_sized, ap (λ c. c.processes) way.config)

  before_next : (k : ℕ) → from ≤ k → k < n → can_transmit now k ≡ false
  before_next k low high = way.marked.transmits k (next.first k low high)

  turn_state : fold transmit (transmit now n) (ahead (n + 1) s.config.processes) ≡ sweep s
  turn_state = sym (next_state now s.config.processes from n next.at_least next_within before_next) ∙ way.state

  turn_raises : raises + (one (can_transmit now n) + raises_along (transmit now n) (ahead (n + 1) s.config.processes)) ≡ sweep_raises s
  turn_raises = omega (arith, next_raises now s.config.processes from n next.at_least next_within before_next, way.raised)

  -- n could not transmit: it is left to check
  pub pass_still : can_transmit now n ≡ false → IsPassing s (n + 1) raises (slice_set pending n false) (slice_set checks n true) now
  pass_still still =
      let same = cannot_still now n still in
      let counted = ap one still in
      let rest = ap (λ t. raises_along t (ahead (n + 1) s.config.processes)) same in
      let checks_long : n < length checks = omega (arith, way.marked.checks_sized, ap (λ c. c.processes) way.config, next_within) in
      record {
        state = ap (λ t. fold transmit t (ahead (n + 1) s.config.processes)) (sym same) ∙ turn_state;
        raised = omega (arith, turn_raises, counted, rest);
        marked = record {
          laws = way.marked.laws;
          transmits = λ k none. elim (not_cleared pending n k none) [
            | inl e ↦ ap (can_transmit now) e ∙ still
            | inr out ↦ way.marked.transmits k out
          ];
          detects = λ k none unchecked. elim (cases_eq k n) [
            | inl e ↦
                let added : has (slice_set checks n true) k ≡ true = ap (has (slice_set checks n true)) e ∙ has_added checks n checks_long in
                let never : true ≡ false = sym added ∙ unchecked in
                absurd (cc)
            | inr apart ↦ way.marked.detects k (sym (has_apart pending n k false apart) ∙ none) (sym (has_apart checks n k true apart) ∙ unchecked)
          ];
          pending_sized = length-set pending n false ∙ way.marked.pending_sized;
          checks_sized = length-set checks n true ∙ way.marked.checks_sized;
        };
        below = λ nothing k under. elim (cases_eq k n) [
          | inl e ↦ ap (has (slice_set pending n false)) e ∙ has_cleared pending n
          | inr apart ↦ has_apart pending n k false apart ∙ (elim (cases_lt k from) [
            | inl low ↦ way.below nothing k low
            | inr high ↦ next.first k high (omega arith)
          ])
        ];
        config = way.config;
        few = omega (arith, way.few, next.at_least);
        within = omega (arith, next_within);
      }

  -- n took over its holder's label: those that wait for it are pending
  module _ (can : can_transmit now n ≡ true) (more : List Bool) (adds : AddsWaiters (transmit now n) n (slice_set pending n false) more) where
    -- who is not pending now is n, or was not before and does not wait for n
    not_more : (k : ℕ) → has more k ≡ false → (k ≡ n) ⊎ ((k ≢ n) × (has pending k ≡ false) × (holder_of now k ≢ Some n))
    not_more k none = elim (cases_eq k n) [
      | inl e ↦ inl e
      | inr apart ↦ inr (
        apart,
        elim (cases_Bool (has pending k)) [
          | inr out ↦ out
          | inl was ↦ let never : true ≡ false = sym (adds.kept k (has_apart pending n k false apart ∙ was)) ∙ none in absurd (cc)
        ],
        λ waits. let never : true ≡ false = sym (adds.added k (transmit_holder now n k ∙ waits)) ∙ none in absurd (cc),
      )
    ]

    pub pass_raises : IsPassing s (n + 1) (raises + 1) more checks (transmit now n)
    pass_raises =
        let counted = ap one can in
        let config = transmit_config now n in
        record {
          state = turn_state;
          raised = omega (arith, turn_raises, counted);
          marked = record {
            laws = (transmit_keeps now way.marked.laws n).laws;
            transmits = λ k none. elim (not_more k none) [
              | inl e ↦ ap (can_transmit (transmit now n)) e ∙ risen_transmits_not now n way.marked.laws can
              | inr out ↦ transmit_frame now n k out.0 out.2 ∙ way.marked.transmits k out.1
            ];
            detects = λ k none unchecked. elim (not_more k none) [
              | inl e ↦ ap (can_detect (transmit now n)) e ∙ risen_detects_not now n way.marked.laws can
              | inr out ↦ detect_frame now n k out.0 out.2 ∙ way.marked.detects k out.1 unchecked
            ];
            pending_sized = adds.sized ∙ length-set pending n false ∙ way.marked.pending_sized ∙ ap (λ c. c.processes) (sym config);
            checks_sized = way.marked.checks_sized ∙ ap (λ c. c.processes) (sym config);
          };
          below = λ nothing k under. absurd (omega arith);
          config = config ∙ way.config;
          few = omega (arith, way.few, next.at_least);
          within = omega (arith, next_within);
        }

-- nobody is pending from here on: the sweep is over
pub pass_ends : (s : TableState) (from raises : ℕ) (pending checks : List Bool) (now : TableState) → IsPassing s from raises pending checks now
    → HasNoneFrom pending from → IsPassed s raises pending checks now
pass_ends s from raises pending checks now way none =
    let idle : (k : ℕ) → Among k (ahead from s.config.processes) → can_transmit now k ≡ false
    = λ k found. way.marked.transmits k (none k (between from s.config.processes k way.within found).0) in
    record {
      state = sym (skip_state now (ahead from s.config.processes) idle) ∙ way.state;
      raised = omega (arith, skip_raises now (ahead from s.config.processes) idle, way.raised);
      marked = way.marked;
      none = λ nothing k. elim (cases_lt k from) [ inl low ↦ way.below nothing k low | inr high ↦ none k high ];
    }
