-- Settling, which is sweeps of raises until one raises nothing: the last sweep shows that no raise applies, and all of them are one run of raises.
use Rattle.std.specs.Prelude.{ℕ, zero, suc, ◌+◌, ◌*◌, ◌≡◌, ◌≤◌, ◌<◌, ◌⊎◌, List, [], ◌∷◌, length}
use Rattle.std.proofs.Common.{inl, inr, arith, sym, ◌∙◌, refl}
use Rattle.mm_lists.specs.Members.{Among}
use Rattle.mm_rules.specs.Graph.{Graph, WaitsFor, LabelReturned, IsGreatest, IsSettled}
use Rattle.mm_rules.proofs.Graph.Laws.{IsLawful, HasLabelMakers}
use Rattle.mm_rules.proofs.Graph.Change.{Raises}
use Rattle.mm_rules.proofs.Graph.RaiseRun.{RaiseRun, runs_join, run_keeps_holders, run_keeps_laws, run_keeps_makers, run_keeps_returned, settling_gives_greatest}
use Rattle.mm_rules.proofs.Graph.RaiseBound.{raises_bound}

-- no raise applies at k
abbrev pub IsStill : Graph → ℕ → Type 0
IsStill g k = (h : ℕ) → WaitsFor g k h → g.public h ≤ g.public k

-- a raise of each of these processes in turn, where one applies then, and so many of them
abbrev pub Sweep : Graph → List ℕ → ℕ → Graph → Type 0
Sweep g [] raises new = (raises ≡ 0) × (new ≡ g)
Sweep g (k ∷ ks) raises new = (IsStill g k × Sweep g ks raises new)
    ⊎ ((h : ℕ) × (next : Graph) × (rest : ℕ) × (raises ≡ suc rest) × Raises g k h next × Sweep next ks rest new)

-- so many sweeps that raise something, and then one that raises nothing
abbrev pub Settles : Graph → List ℕ → ℕ → ℕ → Graph → Type 0
Settles g ks zero raises new = (raises ≡ 0) × Sweep g ks 0 new
Settles g ks (suc sweeps) raises new =
    (now : ℕ) × (later : ℕ) × (next : Graph) × (0 < now) × (raises ≡ now + later) × Sweep g ks now next × Settles next ks sweeps later new

pub sweep_runs : (g : Graph) (ks : List ℕ) (raises : ℕ) (new : Graph) → Sweep g ks raises new → RaiseRun g raises new
sweep_runs g [] raises new (none, same) = rw none same
sweep_runs g (k ∷ ks) raises new (inl (still, sweep)) = sweep_runs g ks raises new sweep
sweep_runs g (k ∷ ks) raises new (inr (h, next, rest, count, raise, sweep)) = rw count (k, h, next, raise, sweep_runs next ks rest new sweep)

-- where a sweep raised nothing, no raise applies at any process of it
empty_sweep : (g : Graph) (ks : List ℕ) (raises : ℕ) (new : Graph) → Sweep g ks raises new → raises ≡ 0
    → (new ≡ g) × ((k : ℕ) → Among k ks → IsStill g k)
empty_sweep g [] raises new sweep none = (sweep.1, λ k found. absurd found)
empty_sweep g (k ∷ ks) raises new (inl (still, sweep)) none =
    let rest : (new ≡ g) × ((j : ℕ) → Among j ks → IsStill g j) = empty_sweep g ks raises new sweep none in
    (rest.0, λ j found. elim found [ inl e ↦ rw e still | inr later ↦ rest.1 j later ])
empty_sweep g (k ∷ ks) raises new (inr (h, next, rest, count, raise, sweep)) none = absurd (omega arith)

settles_runs : (g : Graph) (ks : List ℕ) (sweeps raises : ℕ) (new : Graph) → Settles g ks sweeps raises new → RaiseRun g raises new
settles_runs g ks zero raises new (none, last) = rw none (sweep_runs g ks 0 new last)
settles_runs g ks (suc sweeps) raises new (now, later, next, some, count, sweep, rest) =
    rw count (runs_join g next new now later (sweep_runs g ks now next sweep) (settles_runs next ks sweeps later new rest))

-- the last sweep finds nothing to raise, so nothing applies to any process that waits
settles_to_settled : (g : Graph) (ks : List ℕ) (sweeps raises : ℕ) (new : Graph) → ((k h : ℕ) → WaitsFor g k h → Among k ks)
    → Settles g ks sweeps raises new → IsSettled new
settles_to_settled g ks zero raises new all (none, last) =
    let rest : (new ≡ g) × ((k : ℕ) → Among k ks → IsStill g k) = empty_sweep g ks 0 new last refl in
    rw rest.0 (λ k h waits. rest.1 k (all k h waits) h waits)
settles_to_settled g ks (suc sweeps) raises new all (now, later, next, some, count, sweep, rest) =
    let holders : (k : ℕ) → next.holder k ≡ g.holder k = run_keeps_holders g now next (sweep_runs g ks now next sweep) in
    settles_to_settled next ks sweeps later new (λ k h waits. all k h (sym (holders k) ∙ waits)) rest

pub record IsSettledFrom (g : Graph) (waiting : List ℕ) (raises : ℕ) (new : Graph) : Type 0 where
  pub lawful : IsLawful new
  pub makers : (number : ℕ → ℕ) → HasLabelMakers number g → HasLabelMakers number new
  pub settled : IsSettled new
  pub raise_bound : raises ≤ length waiting * g.processes
  pub greatest : (k : ℕ) → IsGreatest g k (new.public k)
  pub standing : (v h : ℕ) → LabelReturned g v h → LabelReturned new v h

pub settling_settles : (g new : Graph) (waiting : List ℕ) (sweeps raises : ℕ) → IsLawful g → ((k h : ℕ) → WaitsFor g k h → Among k waiting)
    → Settles g waiting sweeps raises new → IsSettledFrom g waiting raises new
settling_settles g new waiting sweeps raises laws all settles =
    let run : RaiseRun g raises new = settles_runs g waiting sweeps raises new settles in
    let settled : IsSettled new = settles_to_settled g waiting sweeps raises new all settles in
    record {
      lawful = run_keeps_laws g raises new run laws;
      makers = λ number. run_keeps_makers number g raises new run laws;
      settled = settled;
      raise_bound = raises_bound g raises new waiting laws.within all run;
      greatest = settling_gives_greatest g raises new run settled;
      standing = run_keeps_returned g raises new run laws;
    }
