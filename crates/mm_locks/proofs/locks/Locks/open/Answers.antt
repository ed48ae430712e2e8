use Rattle.std.proofs.Common.{◌≡◌, subst}
use Rattle.std.specs.Prelude.{IfErr}
use Rattle.mm_locks.specs.declared.opening.OpenError.TheVariants.{Memory}
use Rattle.mm_locks.proofs.locks.Locks.open.Goals as goal

pub returns-in-Err-clause-name_bytes : goal.returns-in-Err-clause-name_bytes
returns-in-Err-clause-name_bytes c = ((λ is. c.in-Err.ensures.name_bytes.0 (cc)), (λ out. (let was = c.in-Err.ensures.name_bytes.1 out in cc)))

pub returns-in-Ok-clause-transactions : goal.returns-in-Ok-clause-transactions
returns-in-Ok-clause-transactions c = ((λ is. (let memory = subst (λ r. IfErr r (λ error. error ≡ Memory)) is c.open_over.ensures in absurd (cc))), (λ out. (let never = c.in-Ok.ensures.transactions.1 (out.0, out.1) in absurd (cc))))

pub returns-in-Ok-clause-names : goal.returns-in-Ok-clause-names
returns-in-Ok-clause-names c = ((λ is. (let memory = subst (λ r. IfErr r (λ error. error ≡ Memory)) is c.open_over.ensures in absurd (cc))), (λ out. (let never = c.in-Ok.ensures.names.1 (out.0, out.1, out.2) in absurd (cc))))

pub returns-in-Ok-clause-name_bytes : goal.returns-in-Ok-clause-name_bytes
returns-in-Ok-clause-name_bytes c = ((λ is. (let memory = subst (λ r. IfErr r (λ error. error ≡ Memory)) is c.open_over.ensures in absurd (cc))), (λ out. (let never = c.in-Ok.ensures.name_bytes.1 (out.0, out.1, out.2, out.3) in absurd (cc))))
