-- A turn of a pass, whether it raised or not.
use Rattle.std.proofs.Common.{◌≡◌, ◌+◌, ℕ, Bool, true, false, List, slice_set, sym, subst, ◌∙◌, arith}
use Rattle.mm_rules.specs.TableState.{TableState}
use Rattle.mm_rules.specs.Change.{can_transmit, transmit}
use Rattle.mm_bit_set.specs.BitSet.{IsNextMember}
use Rattle.mm_settle_lemmas.specs.Steps.Marked.{AddsWaiters}
use Rattle.mm_settle_lemmas.specs.Steps.Pass.{IsPassing, IsTurn}
use Rattle.mm_settle_lemmas.proofs.Lemmas.Frames.{transmit_holder, cannot_still}
use Rattle.mm_settle_lemmas.proofs.Lemmas.Skips.{one}
use Rattle.mm_settle_lemmas.proofs.Lemmas.Passes.{pass_still, pass_raises}

-- who waits for n does not change by a transmit
adds_after : (s : TableState) (n : ℕ) (old new : List Bool) → AddsWaiters s n old new → AddsWaiters (transmit s n) n old new
adds_after s n old new adds = record { kept = adds.kept; added = λ k waits. adds.added k (sym (transmit_holder s n k) ∙ waits); sized = adds.sized }

module _ (s : TableState) (from raises : ℕ) (pending checks : List Bool) (now : TableState)
    (way : IsPassing s from raises pending checks now) (n : ℕ) (next : IsNextMember pending from n) where
  turn_by : (raised : Bool) (more checked : List Bool) → raised ≡ can_transmit now n → IsTurn now n raised (slice_set pending n false) checks more checked
      → IsPassing s (n + 1) (raises + one raised) more checked (transmit now n)
  turn_by true more checked is sets =
      rw sets.1 (pass_raises s from raises pending checks now way n next (sym is) more (adds_after now n (slice_set pending n false) more sets.0))
  turn_by false more checked is sets =
      let same = cannot_still now n (sym is) in
      let count : raises + 0 ≡ raises = omega arith in
      rw (sets.0, sets.1, same, count) (pass_still s from raises pending checks now way n next (sym is))

  -- one turn of a pass, where n was taken from the pending
  pub pass_turn : (taken : List Bool) (raised : Bool) (count : ℕ) (more checked : List Bool) (new : TableState) → taken ≡ slice_set pending n false
      → raised ≡ can_transmit now n → count ≡ raises + one raised → new ≡ transmit now n
      → IsTurn now n raised taken checks more checked → IsPassing s (n + 1) count more checked new
  pass_turn taken raised count more checked new cleared is counted state sets =
      rw (state, counted) (turn_by raised more checked is (subst (λ p. IsTurn now n raised p checks more checked) cleared sets))
