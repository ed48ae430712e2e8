-- How many raises there can be: each lifts a waiting process over one at least of the labels that were shown at the start, and raises make no label.
use Rattle.std.specs.Prelude.{ℕ, zero, suc, ◌+◌, ◌*◌, ◌-◌, min, length, ◌≡◌, ◌≤◌, ◌<◌, ◌⊎◌, List, [], ◌∷◌}
use Rattle.std.proofs.Common.{inl, inr, arith, sym, ap, ◌∙◌, refl}
use Rattle.mm_lists.specs.Members.{Among}
use Rattle.mm_rules.specs.Graph.{Graph, WaitsFor}
use Rattle.mm_rules.proofs.Graph.Laws.{WithinLaw}
use Rattle.mm_rules.proofs.Graph.Change.{Raises}
use Rattle.mm_rules.proofs.Graph.Raise.{raise_lowers_nothing, raised_shows}
use Rattle.mm_rules.proofs.Graph.RaiseRun.{RaiseRun}

-- how many of the first n labels are greater than x
abbrev greater : (ℕ → ℕ) → ℕ → ℕ → ℕ
greater shown x zero = 0
greater shown x (suc n) = min 1 (shown n - x) + greater shown x n

greater_at_most : (shown : ℕ → ℕ) (x n : ℕ) → greater shown x n ≤ n
greater_at_most shown x zero = omega arith
greater_at_most shown x (suc n) = omega (arith, greater_at_most shown x n)

greater_falls : (shown : ℕ → ℕ) (x y n : ℕ) → x ≤ y → greater shown y n ≤ greater shown x n
greater_falls shown x y zero below = omega arith
greater_falls shown x y (suc n) below = omega (arith, greater_falls shown x y n below)

last_or_before : (i n : ℕ) → i < suc n → (i ≡ n) ⊎ (i < n)
last_or_before i n inside = grind arith

-- who comes up to one of the labels has fewer above it
greater_falls_by_one : (shown : ℕ → ℕ) (x y i n : ℕ) → i < n → x < y → y ≡ shown i → greater shown y n < greater shown x n
greater_falls_by_one shown x y i zero inside below here = omega arith
greater_falls_by_one shown x y i (suc n) inside below here = elim (last_or_before i n inside) [
  | inl e ↦ omega (arith, ap shown e, greater_falls shown x y n (omega arith))
  | inr before ↦ omega (arith, greater_falls_by_one shown x y i n before below here)
]

-- how many of the labels shown at the start are greater than what each of the list shows now, added up
abbrev to_pass : Graph → Graph → List ℕ → ℕ
to_pass start g [] = 0
to_pass start g (k ∷ ks) = greater start.public (g.public k) start.processes + to_pass start g ks

to_pass_at_most : (start g : Graph) (ks : List ℕ) → to_pass start g ks ≤ length ks * start.processes
to_pass_at_most start g [] = omega arith
to_pass_at_most start g (k ∷ ks) = omega (arith, greater_at_most start.public (g.public k) start.processes, to_pass_at_most start g ks)

-- k shows a label that one showed at the start
abbrev ShowsOld : Graph → Graph → ℕ → Type 0
ShowsOld start g k = (i : ℕ) × (i < start.processes) × (g.public k ≡ start.public i)

module _ (start g new : Graph) (n h : ℕ) (r : Raises g n h new) where
  greater_falls_at : (k : ℕ) → greater start.public (new.public k) start.processes ≤ greater start.public (g.public k) start.processes
  greater_falls_at k = greater_falls start.public (g.public k) (new.public k) start.processes (raise_lowers_nothing g new n h r k)

  to_pass_falls : (ks : List ℕ) → to_pass start new ks ≤ to_pass start g ks
  to_pass_falls [] = omega arith
  to_pass_falls (k ∷ ks) = omega (arith, greater_falls_at k, to_pass_falls ks)

  to_pass_falls_by_one : ShowsOld start g h → (ks : List ℕ) → Among n ks → to_pass start new ks < to_pass start g ks
  to_pass_falls_by_one old [] found = absurd found
  to_pass_falls_by_one old (k ∷ ks) (inl e) =
      let shows : new.public k ≡ g.public h = ap new.public (sym e) ∙ r.public_now in
      let below : g.public k < new.public k = omega (arith, r.below, ap g.public e) in
      omega (arith, greater_falls_by_one start.public (g.public k) (new.public k) old.0 start.processes old.1 below (shows ∙ old.2), to_pass_falls ks)
  to_pass_falls_by_one old (k ∷ ks) (inr found) = omega (arith, greater_falls_at k, to_pass_falls_by_one old ks found)

  raise_shows_old : ShowsOld start g h → (k : ℕ) → ShowsOld start g k → ShowsOld start new k
  raise_shows_old at_h k at_k = elim (raised_shows g new n h r k) [
    | inl now ↦ (at_h.0, at_h.1, now.1 ∙ at_h.2)
    | inr same ↦ (at_k.0, at_k.1, same.1 ∙ at_k.2)
  ]

run_is_few : (start g : Graph) (raises : ℕ) (new : Graph) (ks : List ℕ) → ((k h : ℕ) → WaitsFor g k h → Among k ks × (h < start.processes))
    → ((k : ℕ) → k < start.processes → ShowsOld start g k) → RaiseRun g raises new → raises ≤ to_pass start g ks
run_is_few start g zero new ks waiting old run = omega arith
run_is_few start g (suc raises) new ks waiting old (n, h, next, raise, run) =
    let here : Among n ks × (h < start.processes) = waiting n h raise.waits in
    let at_h : ShowsOld start g h = old h here.1 in
    let waiting_still : (k j : ℕ) → WaitsFor next k j → Among k ks × (j < start.processes) = λ k j waits. waiting k j (sym (raise.holders k) ∙ waits) in
    let old_still : (k : ℕ) → k < start.processes → ShowsOld start next k = λ k inside. raise_shows_old start g next n h raise at_h k (old k inside) in
    omega (
      arith,
      to_pass_falls_by_one start g next n h raise at_h ks here.0,
      run_is_few start next raises new ks waiting_still old_still run,
    )

pub raises_bound : (g : Graph) (raises : ℕ) (new : Graph) (waiting : List ℕ) → WithinLaw g → ((k h : ℕ) → WaitsFor g k h → Among k waiting)
    → RaiseRun g raises new → raises ≤ length waiting * g.processes
raises_bound g raises new waiting within all run =
    omega (
      arith,
      to_pass_at_most g g waiting,
      run_is_few g g raises new waiting (λ k h waits. (all k h waits, (within k h waits).1)) (λ k k_in. (k, k_in, refl)) run,
    )
