-- Raises one after the other: what each of them keeps, all of them keep.
use Rattle.std.specs.Prelude.{ℕ, zero, suc, ◌+◌, ◌≡◌}
use Rattle.std.proofs.Common.{arith, ap, ◌∙◌}
use Rattle.mm_rules.specs.Graph.{Graph, IsGreatest, IsSettled, LabelReturned}
use Rattle.mm_rules.proofs.Graph.Laws.{IsLawful, HasLabelMakers}
use Rattle.mm_rules.proofs.Graph.Change.{Raises}
use Rattle.mm_rules.proofs.Graph.Raise.{raise_keeps_laws}
use Rattle.mm_rules.proofs.Graph.LabelMakers.{raise_keeps_makers}
use Rattle.mm_rules.proofs.Graph.LabelReturned.{raise_keeps_returned}
use Rattle.mm_rules.proofs.Graph.IsGreatest.{raise_made_no_greatest, settled_shows_greatest}

-- so many raises, and no other change, lead from g to new
abbrev pub RaiseRun : Graph → ℕ → Graph → Type 0
RaiseRun g zero new = new ≡ g
RaiseRun g (suc raises) new = (n : ℕ) × (h : ℕ) × (next : Graph) × Raises g n h next × RaiseRun next raises new

pub runs_join : (a b c : Graph) (raises more : ℕ) → RaiseRun a raises b → RaiseRun b more c → RaiseRun a (raises + more) c
runs_join a b c zero more same run =
    let count : zero + more ≡ more = omega arith in
    rw (count, ← same) run
runs_join a b c (suc raises) more (n, h, next, raise, run) later =
    let count : suc raises + more ≡ suc (raises + more) = omega arith in
    rw count (n, h, next, raise, runs_join next b c raises more run later)

pub run_keeps_holders : (g : Graph) (raises : ℕ) (new : Graph) → RaiseRun g raises new → (k : ℕ) → new.holder k ≡ g.holder k
run_keeps_holders g zero new same k = ap (λ (x : Graph). x.holder k) same
run_keeps_holders g (suc raises) new (n, h, next, raise, run) k = run_keeps_holders next raises new run k ∙ raise.holders k

pub run_keeps_laws : (g : Graph) (raises : ℕ) (new : Graph) → RaiseRun g raises new → IsLawful g → IsLawful new
run_keeps_laws g zero new same laws = rw same laws
run_keeps_laws g (suc raises) new (n, h, next, raise, run) laws = run_keeps_laws next raises new run (raise_keeps_laws g next n h raise laws)

pub run_keeps_returned : (g : Graph) (raises : ℕ) (new : Graph) → RaiseRun g raises new
    → IsLawful g → (v i : ℕ) → LabelReturned g v i → LabelReturned new v i
run_keeps_returned g zero new same laws v i returned = rw same returned
run_keeps_returned g (suc raises) new (n, h, next, raise, run) laws v i returned =
    run_keeps_returned next raises new run (raise_keeps_laws g next n h raise laws) v i (raise_keeps_returned g next n h v i raise laws returned)

pub run_keeps_makers : (number : ℕ → ℕ) (g : Graph) (raises : ℕ) (new : Graph) → RaiseRun g raises new
    → IsLawful g → HasLabelMakers number g → HasLabelMakers number new
run_keeps_makers number g zero new same laws makers = rw same makers
run_keeps_makers number g (suc raises) new (n, h, next, raise, run) laws makers =
    run_keeps_makers number next raises new run (raise_keeps_laws g next n h raise laws) (raise_keeps_makers number g next n h raise laws.within makers)

-- what stands greatest along the waits after raises stood greatest there before
run_made_no_greatest : (g : Graph) (raises : ℕ) (new : Graph) → RaiseRun g raises new
    → (k L : ℕ) → IsGreatest new k L → IsGreatest g k L
run_made_no_greatest g zero new same k L greatest = rw same at greatest
run_made_no_greatest g (suc raises) new (n, h, next, raise, run) k L greatest =
    raise_made_no_greatest g next n h raise k L (run_made_no_greatest next raises new run k L greatest)

-- after raises until none applies, each process shows the greatest public label that stood along its waits before
pub settling_gives_greatest : (g : Graph) (raises : ℕ) (new : Graph) → RaiseRun g raises new
    → IsSettled new → (k : ℕ) → IsGreatest g k (new.public k)
settling_gives_greatest g raises new run settled k = run_made_no_greatest g raises new run k (new.public k) (settled_shows_greatest new settled k)
