use Rattle.std.proofs.Common.{sym, ◌∙◌}
use Rattle.mm_manager.proofs.Lemmas.Reads.{no_tenant_waits}
use Rattle.mm_manager.proofs.reads.wait_at.Goals as goal

pub returns-in_err-key : goal.returns-in_err-key
returns-in_err-key c = c.from_residual.ensures ∙ sym (no_tenant_waits c.args.table.now c.keeps_laws.ensures c.args.process (sym c.in_err-key.ensures))
