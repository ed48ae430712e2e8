use Rattle.std.proofs.Common.{Result, Ok, Err, IfErr, IsErrAnd}
use Rattle.mm_work.proofs.work.run_bytes.Goals as goal

-- what follows from an error of which this holds
of_error : {A E B : Type 0} (P : E → Type 0) (r : Result A E) → IsErrAnd r P → IfErr r (λ e. P e → B) → B
of_error P (Ok a) is follows = absurd is
of_error P (Err e) is follows = follows is

pub returns-clause-malformed : goal.returns-clause-malformed
returns-clause-malformed g c is = of_error _ c.read-read.result (c.run_work.ensures.malformed is) c.read-read.ensures.malformed
