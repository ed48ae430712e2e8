use Rattle.std.proofs.Common.{◌≡◌, None, ap, sym, ◌∙◌}
use Rattle.mm_rules.specs.TableState.{waited_for}
use Rattle.mm_rules.proofs.States.Tenants.{none_told}
use Rattle.mm_transactions.proofs.Lemmas.Told.{idle_slot}
use Rattle.mm_transactions.proofs.transactions.Transactions.tenant.Goals as goal

pub returns-clause-idle : goal.returns-clause-idle
returns-clause-idle c =
    let n = c.args.process in
    none_told (waited_for c.args.self.now.waits n ≡ None) c.key_at.result
    (λ none. sym (ap (λ t. waited_for t.waits n) c.self.view_is) ∙ idle_slot c.self.inside.arrivals.items c.self.inside.slots n (sym c.key_at.ensures ∙ none))
