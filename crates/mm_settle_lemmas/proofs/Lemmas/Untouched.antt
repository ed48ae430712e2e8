-- A settle that raises no label and gives no verdict leaves every process as it was.
use Rattle.std.proofs.Common.{◌≡◌, ◌+◌, ℕ, zero, suc, Bool, true, false, List, [], ◌∷◌, fold, count_by, Ok, Err, MatchBool, subst, inl, inr, refl, sym, ap, ◌∙◌, arith}
use Rattle.std.proofs.lemmas.Bool.{cases_Bool}
use Rattle.mm_rules.specs.declared.reply.Settled.{Settled}
use Rattle.mm_rules.specs.TableState.{TableState, waiting_processes}
use Rattle.mm_rules.specs.Change.{can_detect, detect, swept, total_raises}
use Rattle.mm_rules.specs.Event.{counts_exhausted, settled, Settles, Settle, Step, Gives}
use Rattle.mm_rules.proofs.States.Detect.{detect_still}
use Rattle.mm_rules.proofs.States.Outcome.{counting}
use Rattle.mm_bit_set.specs.BitSet.{has}
use Rattle.mm_settle_lemmas.specs.Touched.{Touches, IsUnchanged}
use Rattle.mm_settle_lemmas.specs.Steps.Marked.{IsNoneMarked}
use Rattle.mm_settle_lemmas.proofs.Lemmas.Skips.{one, count_first}

-- where none of these is due, their detects change nothing
undetected : (s : TableState) (ns : List ℕ) → count_by (can_detect s) ns ≡ 0 → fold detect s ns ≡ s
undetected s [] none = refl
undetected s (n ∷ ns) none = go (can_detect s n) refl (sym (count_first (can_detect s) n ns) ∙ none) (undetected s ns) where
  go : (b : Bool) → can_detect s n ≡ b → one b + count_by (can_detect s) ns ≡ 0 → (count_by (can_detect s) ns ≡ 0 → fold detect s ns ≡ s) → fold detect s (n ∷ ns) ≡ s
  go true due some others = absurd (omega (arith, some))
  go false not rest others = ap (λ (t : TableState). fold detect t ns) (detect_still s n not) ∙ others (omega (arith, rest))

-- where the sweeps raised nothing there were none
unswept : (s : TableState) (n : ℕ) → Settles s n → total_raises s n ≡ 0 → n ≡ 0
unswept s zero settles none = refl
unswept s (suc m) settles none = absurd (omega (arith, settles.first m (omega arith), none))

-- what such a settle counts
abbrev pub nothing : Settled
nothing = record { raises = 0; verdicts = 0 }

unsettled : (s new : TableState) (b : Bool) → counts_exhausted s ≡ b
    → MatchBool b (Gives (settled s 0) (Ok nothing) new) ((n : ℕ) × Settles s n × Gives (settled s n) (Ok nothing) new) → new ≡ counting s (s.totals.accepted + 1)
unsettled s new true full step = (let never : Ok nothing ≡ Err _ = rw full at step.0 in absurd (cc))
unsettled s new false free (n, settles, step) =
    let said : Settled = record { raises = total_raises s n; verdicts = count_by (can_detect (swept s n)) (waiting_processes (swept s n)) } in
    let reply : Ok nothing ≡ Ok said = rw free at step.0 in
    let is : nothing ≡ said = cc in
    let none : n ≡ 0 = unswept s n settles (ap (λ (a : Settled). a.raises) (sym is)) in
    let rested : TableState = fold detect (swept s n) (waiting_processes (swept s n)) in
    let state : new ≡ counting rested (rested.totals.accepted + 1) = rw free at step.1 in
    let verdicts : count_by (can_detect (swept s n)) (waiting_processes (swept s n)) ≡ 0 = ap (λ (a : Settled). a.verdicts) (sym is) in
    let same : fold detect (swept s n) (waiting_processes (swept s n)) ≡ swept s n = undetected (swept s n) (waiting_processes (swept s n)) verdicts in
    state ∙ ap (λ (t : TableState). counting t (t.totals.accepted + 1)) (same ∙ ap (swept s) none)

module _ (s new : TableState) (step : Step Settle s (Ok nothing) new) where
  unchanged : (n : ℕ) → IsUnchanged s new n
  unchanged n =
      subst (λ (t : TableState). IsUnchanged s t n) (sym (unsettled s new (counts_exhausted s) refl step))
      (record { private = refl; public = refl; wait = refl; holder = refl; verdict = refl })

  -- such a settle adds nobody to the set
  pub none_touched : (old touched : List Bool) → Touches s new old touched → IsNoneMarked old → IsNoneMarked touched
  none_touched old touched touches none n = elim (cases_Bool (has touched n)) [
    | inl here ↦ elim (touches.changed n here) [
      | inl was ↦ (let never : true ≡ false = sym was ∙ none n in absurd (cc))
      | inr changed ↦ absurd (changed (unchanged n))
    ]
    | inr out ↦ out
  ]
