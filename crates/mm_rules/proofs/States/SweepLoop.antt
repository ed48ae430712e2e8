-- The loop of sweeps: where it stands, that it ends, and what it leads to.
use Rattle.std.proofs.Common.{◌≡◌, ◌+◌, ◌-◌, ◌*◌, ◌<◌, ◌≤◌, ℕ, suc, sym, ap, ◌∙◌, arith, inl, inr}
use Rattle.std.proofs.lemmas.Bool.{cases_eq}
use Rattle.mm_rules.specs.TableState.{TableState, waiting_processes}
use Rattle.mm_rules.specs.Change.{sweep, sweep_raises, swept, total_raises}
use Rattle.mm_rules.specs.Laws.{Laws, most_raises}
use Rattle.mm_rules.specs.Stages.{IsSwept}
use Rattle.mm_rules.proofs.States.Sweep.{swept_same_waits, raised_nothing}
use Rattle.mm_rules.proofs.States.SweepRaises.{sweep_raises_bound, most_raises_bound}

-- s came from old by some sweeps, each of which raised something, and which raised so many labels
pub record IsSweeping (old : TableState) (raises : ℕ) (s : TableState) : Type 0 where
  pub sweeps : ℕ
  pub before : (m : ℕ) → m < sweeps → 0 < sweep_raises (swept old m)
  pub raised : raises ≡ total_raises old sweeps
  pub state : s ≡ swept old sweeps

module _ (old : TableState) (raises : ℕ) (s : TableState) (more : ℕ) (new : TableState)
    (laws : Laws old) (way : IsSweeping old raises s) (raised : more ≡ sweep_raises s) (state : new ≡ sweep s) where
  raised_now : more ≡ sweep_raises (swept old way.sweeps)
  raised_now = raised ∙ ap sweep_raises way.state

  swept_now : new ≡ swept old (suc way.sweeps)
  swept_now = state ∙ ap sweep way.state

  total_now : raises + more ≡ total_raises old (suc way.sweeps)
  total_now = omega (arith, way.raised, raised_now)

  in_bound : raises + more ≤ most_raises old
  in_bound = omega (arith, total_now, sweep_raises_bound old (suc way.sweeps) laws)

  pub falls : 0 < more → most_raises old - (raises + more) < most_raises old - raises
  falls some = omega (arith, in_bound)

  pub fits : raises + more ≤ 65536 * 65536
  fits = omega (arith, in_bound, most_raises_bound old laws)

  pub goes_on : 0 < more → IsSweeping old (raises + more) new
  goes_on some = record {
    sweeps = suc way.sweeps;
    before = λ m below. elim (cases_eq m way.sweeps) [
      | inl last ↦ rw last (omega (arith, raised_now))
      | inr earlier ↦ way.before m (omega arith)
    ];
    raised = total_now;
    state = swept_now;
  }

  pub ends : more ≡ 0 → IsSwept old raises new
  ends none =
      let still : sweep_raises (swept old way.sweeps) ≡ 0 = sym raised_now ∙ none in
      let same : swept old (suc way.sweeps) ≡ swept old way.sweeps = raised_nothing (swept old way.sweeps) (waiting_processes (swept old way.sweeps)) still in
      record {
        sweeps = way.sweeps;
        settles = record { still = still; first = way.before };
        raised = way.raised;
        state = swept_now ∙ same;
      }

-- sweeps leave the configuration
pub sweeping_config : (old : TableState) (raises : ℕ) (s : TableState) → IsSweeping old raises s → s.config ≡ old.config
sweeping_config old raises s way = ap (λ (t : TableState). t.config) way.state ∙ (swept_same_waits old way.sweeps).config

pub swept_config : (old : TableState) (raises : ℕ) (new : TableState) → IsSwept old raises new → new.config ≡ old.config
swept_config old raises new all = ap (λ (t : TableState). t.config) all.state ∙ (swept_same_waits old all.sweeps).config
