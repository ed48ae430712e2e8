use Rattle.std.proofs.Common.{◌≡◌, ℕ, Result, Ok, Err, MatchResult, sym, ap, ◌∙◌}
use Rattle.mm_lines.specs.declared.fault.Fault.{Fault}
use Rattle.mm_detect.proofs.work.threads_on.Goals as goal

-- a status that is not that of a write fault is the one that the run returned
returned : (outcome : Result ℕ Fault) (status fault : ℕ) → MatchResult outcome (λ own. status ≡ own) (λ _. status ≡ 3) → status ≡ 1 → outcome ≡ Ok 1
returned (Ok own) status fault is one = ap (λ n. Ok n) (sym is ∙ one)
returned (Err error) status fault is one = absurd (cc)

pub returns-clause-malformed : goal.returns-clause-malformed
returns-clause-malformed g c one = c.run_bytes.ensures.malformed (returned c.run_bytes.result _ 3 c.status_after.ensures one)
