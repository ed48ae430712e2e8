use Rattle.std.proofs.Common.{refl, subst}
use Rattle.mm_rules.specs.TableState.{TableState}
use Rattle.mm_manager.specs.Refused.{UnlockRefused}
use Rattle.mm_manager.specs.declared.refusal.Refusal.{Refusal}
use Rattle.mm_manager.specs.private.Numbers.{bare}
use Rattle.mm_manager.proofs.Lemmas.Requests.{if_refused, on_ok_refused, on_refused}
use Rattle.mm_manager.proofs.named.NamedTable.unlock.Goals as goal

-- ---- no number has the name

pub returns-in_err-number-clause-handed : goal.returns-in_err-number-clause-handed
returns-in_err-number-clause-handed c = on_ok_refused c.from_residual.result _ c.from_residual.ensures.0

pub returns-in_err-number-clause-untouched : goal.returns-in_err-number-clause-untouched
returns-in_err-number-clause-untouched c = on_refused c.from_residual.result _ record { table = refl; names = refl }

pub returns-in_err-number-clause-refused : goal.returns-in_err-number-clause-refused
returns-in_err-number-clause-refused c =
    let t = c.args.self.now.names in
    if_refused c.from_residual.result c.in_err-number.field-0.0 (λ (refusal : Refusal). UnlockRefused (bare c.args.self.now.table.table t) c.args.key c.args.name.now refusal) c.from_residual.ensures
    (subst (λ (s : TableState). UnlockRefused (bare s t) c.args.key c.args.name.now c.in_err-number.field-0.0) c.table.ensures c.in_err-number.ensures.refused)
