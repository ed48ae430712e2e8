-- Settling ends: as long as each sweep raises something, no more sweeps are made than raises are possible.
use Rattle.std.specs.Prelude.{ℕ, zero, suc, ◌+◌, ◌*◌, ◌≡◌, ◌≤◌, ◌<◌, ◌⊎◌, List, length}
use Rattle.std.proofs.Common.{inl, inr, arith, ap, refl}
use Rattle.mm_lists.specs.Members.{Among}
use Rattle.mm_rules.specs.Graph.{Graph, WaitsFor}
use Rattle.mm_rules.proofs.Graph.Laws.{IsLawful}
use Rattle.mm_rules.proofs.Graph.RaiseRun.{RaiseRun, runs_join, run_keeps_laws}
use Rattle.mm_rules.proofs.Graph.RaiseBound.{raises_bound}
use Rattle.mm_rules.proofs.Graph.Settle.{Sweep, Settles, sweep_runs}

-- from each lawful graph of the sequence a sweep leads to the next
abbrev pub AreSweeps : (ℕ → Graph) → (ℕ → ℕ) → List ℕ → Type 0
AreSweeps after raised waiting = (i : ℕ) → IsLawful (after i) → Sweep (after i) waiting (raised i) (after (suc i))

-- the first n numbers of a sequence, added up
abbrev pub total : (ℕ → ℕ) → ℕ → ℕ
total raised zero = 0
total raised (suc n) = raised 0 + total (λ i. raised (suc i)) n

total_at_least : (raised : ℕ → ℕ) (n : ℕ) → ((i : ℕ) → i < n → 0 < raised i) → n ≤ total raised n
total_at_least raised zero some = omega arith
total_at_least raised (suc n) some =
    omega (arith, some 0 (omega arith), total_at_least (λ i. raised (suc i)) n (λ i inside. some (suc i) (omega arith)))

-- the first number of a sequence that is 0, if one of the first n is
record FirstZero (raised : ℕ → ℕ) (n : ℕ) : Type 0 where
  place : ℕ
  inside : place < n
  zero_there : raised place ≡ 0
  before : (i : ℕ) → i < place → 0 < raised i

zero_or_more : (raised : ℕ → ℕ) (n x : ℕ) → raised n ≡ x → ((i : ℕ) → i < n → 0 < raised i)
    → FirstZero raised (suc n) ⊎ ((i : ℕ) → i < suc n → 0 < raised i)
zero_or_more raised n zero here before = inl record { place = n; inside = omega arith; zero_there = here; before = before }
zero_or_more raised n (suc x) here before = inr (λ i inside. grind (arith, before i, ap raised))

first_zero : (raised : ℕ → ℕ) (n : ℕ) → FirstZero raised n ⊎ ((i : ℕ) → i < n → 0 < raised i)
first_zero raised zero = inr (λ i inside. omega arith)
first_zero raised (suc n) = elim (first_zero raised n) [
  | inl found ↦ inl record { place = found.place; inside = omega (arith, found.inside); zero_there = found.zero_there; before = found.before }
  | inr none ↦ zero_or_more raised n (raised n) refl none
]

-- the first sweep, and the laws after it
first_run : (after : ℕ → Graph) (raised : ℕ → ℕ) (waiting : List ℕ) → IsLawful (after 0) → AreSweeps after raised waiting
    → RaiseRun (after 0) (raised 0) (after 1) × IsLawful (after 1)
first_run after raised waiting laws sweep =
    let run : RaiseRun (after 0) (raised 0) (after 1) = sweep_runs (after 0) waiting (raised 0) (after 1) (sweep 0 laws) in
    (run, run_keeps_laws (after 0) (raised 0) (after 1) run laws)

-- the first n sweeps, as one run of raises
sweeps_run : (after : ℕ → Graph) (raised : ℕ → ℕ) (waiting : List ℕ) (n : ℕ) → IsLawful (after 0) → AreSweeps after raised waiting
    → RaiseRun (after 0) (total raised n) (after n)
sweeps_run after raised waiting zero laws sweep = refl
sweeps_run after raised waiting (suc n) laws sweep =
    let first : RaiseRun (after 0) (raised 0) (after 1) × IsLawful (after 1) = first_run after raised waiting laws sweep in
    let next : ℕ → Graph = λ i. after (suc i) in
    let more : ℕ → ℕ = λ i. raised (suc i) in
    let later : RaiseRun (after 1) (total more n) (after (suc n)) = sweeps_run next more waiting n first.1 (λ i. sweep (suc i)) in
    runs_join (after 0) (after 1) (after (suc n)) (raised 0) (total more n) first.0 later

-- where the n-th is the first that raises nothing, they settle
pub sweeps_settle : (after : ℕ → Graph) (raised : ℕ → ℕ) (waiting : List ℕ) (n : ℕ) → IsLawful (after 0) → AreSweeps after raised waiting
    → raised n ≡ 0 → ((i : ℕ) → i < n → 0 < raised i) → Settles (after 0) waiting n (total raised n) (after (suc n))
sweeps_settle after raised waiting zero laws sweep none before = (refl, rw none at (sweep 0 laws))
sweeps_settle after raised waiting (suc n) laws sweep none before =
    let first : RaiseRun (after 0) (raised 0) (after 1) × IsLawful (after 1) = first_run after raised waiting laws sweep in
    let next : ℕ → Graph = λ i. after (suc i) in
    let more : ℕ → ℕ = λ i. raised (suc i) in
    let some : (i : ℕ) → i < n → 0 < more i = λ i inside. before (suc i) (omega arith) in
    let later : Settles (after 1) waiting n (total more n) (next (suc n)) = sweeps_settle next more waiting n first.1 (λ i. sweep (suc i)) none some in
    (raised 0, total more n, after 1, before 0 (omega arith), refl, sweep 0 laws, later)

-- of the sweeps from `after 0` on, the first that raises nothing
pub record SettlingEnds (after : ℕ → Graph) (raised : ℕ → ℕ) (waiting : List ℕ) : Type 0 where
  pub sweeps : ℕ
  pub bound : sweeps ≤ length waiting * (after 0).processes
  pub none : raised sweeps ≡ 0
  pub before : (i : ℕ) → i < sweeps → 0 < raised i
  pub settles : Settles (after 0) waiting sweeps (total raised sweeps) (after (suc sweeps))

pub settling_ends : (after : ℕ → Graph) (raised : ℕ → ℕ) (waiting : List ℕ) → IsLawful (after 0)
    → ((k h : ℕ) → WaitsFor (after 0) k h → Among k waiting)
    → AreSweeps after raised waiting → SettlingEnds after raised waiting
settling_ends after raised waiting laws all sweep =
    let bound : ℕ = length waiting * (after 0).processes in
    let run : RaiseRun (after 0) (total raised (suc bound)) (after (suc bound)) = sweeps_run after raised waiting (suc bound) laws sweep in
    let at_most : total raised (suc bound) ≤ bound = raises_bound (after 0) (total raised (suc bound)) (after (suc bound)) waiting laws.within all run in
    elim (first_zero raised (suc bound)) [
      | inl found ↦ record {
        sweeps = found.place;
        bound = omega (arith, found.inside);
        none = found.zero_there;
        before = found.before;
        settles = sweeps_settle after raised waiting found.place laws sweep found.zero_there found.before;
      }
      | inr some ↦ absurd (omega (arith, total_at_least raised (suc bound) some))
    ]
