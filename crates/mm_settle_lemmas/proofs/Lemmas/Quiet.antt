-- A settle of a table in which nobody changed: nobody can transmit or newly detect, so it counts itself and does nothing else.
use Rattle.std.proofs.Common.{◌≡◌, ◌+◌, ℕ, Bool, false, List, length, replicate, Option, Some, None, Ok, subst, inl, inr, refl, sym, ap, ◌∙◌, arith}
use Rattle.std.specs.Option.{option_map_or}
use Rattle.std.proofs.lemmas.Bool.{cases_lt}
use Rattle.std.proofs.lemmas.List.{get_or_past, get_or-replicate, length-replicate}
use Rattle.mm_bit_set.specs.BitSet.{has}
use Rattle.mm_rules.specs.TableState.{TableState, holder_of}
use Rattle.mm_rules.specs.Event.{Step, Settle, counts_exhausted}
use Rattle.mm_rules.specs.Laws.{Laws}
use Rattle.mm_rules.specs.Stages.{IsSwept}
use Rattle.mm_rules.proofs.States.Outcome.{counting}
use Rattle.mm_rules.proofs.States.SettleStep.{settle_gives}
use Rattle.mm_rules.proofs.States.SweepLoop.{ends}
use Rattle.mm_settle_lemmas.specs.Touched.{Touches}
use Rattle.mm_settle_lemmas.specs.Steps.Changed.{AreChanged}
use Rattle.mm_settle_lemmas.specs.Steps.Detects.{IsDetected}
use Rattle.mm_settle_lemmas.specs.Steps.Marked.{AreMarked, IsNoneMarked, NoneCan}
use Rattle.mm_settle_lemmas.proofs.Lemmas.Checks.{detects_start, detects_end}
use Rattle.mm_settle_lemmas.proofs.Lemmas.Passes.{pass_starts, pass_ends}
use Rattle.mm_settle_lemmas.proofs.Lemmas.Settling.{settling_starts, settling_touches}
use Rattle.mm_settle_lemmas.proofs.Lemmas.Told.{touches_counted}

-- where nobody changed, nobody can transmit or newly detect
pub quiet_unchanged : (s : TableState) (changed : List Bool) → AreChanged s changed → IsNoneMarked changed → NoneCan s
quiet_unchanged s changed are none = record {
  transmits = λ k. are.transmits k (none k) (by_holder (holder_of s k));
  detects = λ k. are.detects k (none k) (by_holder (holder_of s k));
} where
  by_holder : (holder : Option ℕ) → option_map_or (has changed) holder false ≡ false
  by_holder None = refl
  by_holder (Some n) = none n

module _ (s : TableState) (laws : Laws s) (quiet : NoneCan s) where
  abbrev nobody : List Bool
  nobody = replicate s.config.processes false

  sized : length nobody ≡ s.config.processes
  sized = length-replicate s.config.processes false

  none : IsNoneMarked nobody
  none k = elim (cases_lt k s.config.processes) [
    | inl inside ↦ get_or-replicate s.config.processes k false false inside
    | inr past ↦ get_or_past nobody k false (omega (arith, sized))
  ]

  marked : AreMarked s nobody nobody
  marked = record {
    laws = laws;
    transmits = λ k out. quiet.transmits k;
    detects = λ k out free. quiet.detects k;
    pending_sized = sized;
    checks_sized = sized;
  }

  swept_at_once : IsSwept s 0 s
  swept_at_once =
      let passed = pass_ends s 0 0 nobody nobody s (pass_starts s nobody nobody marked) (λ k low. none k) in
      ends s 0 s 0 s laws (record { sweeps = 0; before = λ m below. absurd (omega arith); raised = refl; state = refl }) passed.raised passed.state refl

  detected : IsDetected s 0 nobody s
  detected = detects_end s 0 0 nobody s (detects_start s nobody laws sized (λ k out. quiet.detects k)) (λ k low. none k)

  module _ (new : TableState) (counted : new ≡ counting s (s.totals.accepted + 1)) where
    pub quiet_settles : counts_exhausted s ≡ false → Step Settle s (Ok (record { raises = 0; verdicts = 0 })) new
    quiet_settles free = settle_gives s s new 0 0 free swept_at_once detected.counted (counted ∙ ap (λ t. counting t (t.totals.accepted + 1)) detected.state)

    pub quiet_touches : (touched : List Bool) → Touches s new touched touched
    quiet_touches touched =
        subst (λ (t : TableState). Touches s t touched touched) (sym counted)
        (touches_counted s s touched touched _ (settling_touches s s touched touched (settling_starts s touched)))
