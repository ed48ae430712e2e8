use Rattle.std.proofs.Common.{◌≡◌, Some, sym, ap, ◌∙◌}
use Rattle.std.specs.Result.{result_ok}
use Rattle.mm_rules.specs.TableState.{wait_of}
use Rattle.mm_graph.proofs.Lemmas.Edges.{edge_made, mode_told, never_stale, no_edge_of_active, no_edge_to_nobody, no_tenant_no_edge, owner_read, owner_refused, waits_for}
use Rattle.mm_graph.proofs.edges.edge_of.Goals as goal
use Rattle.mm_graph.proofs.edges.edge_of.Goals.{in-Waiting, in-Waiting-2}

pub returns-in_err-waiter : goal.returns-in_err-waiter
returns-in_err-waiter c = c.from_residual.ensures ∙ sym (no_tenant_no_edge c.args.table.now c.keeps_laws.ensures c.args.process (sym c.in_err-waiter.ensures))

pub returns-in_err-ok : goal.returns-in_err-ok
returns-in_err-ok c =
    absurd (never_stale c.args.table.now c.args.process c.in_ok-waiter.waiter (sym c.tenant.ensures ∙ c.in_ok-waiter.was) (ap result_ok (sym c.state.ensures) ∙ sym c.ok.ensures.value ∙ c.in_err-ok.was))

pub returns-in-Active : goal.returns-in-Active
returns-in-Active c =
    let mode = mode_told c.args.table.now c.args.process c.in_ok-waiter.waiter c.in_ok-ok.field-0 (sym c.tenant.ensures ∙ c.in_ok-waiter.was) (ap result_ok (sym c.state.ensures) ∙ sym c.ok.ensures.value ∙ c.in_ok-ok.was) in
    sym (no_edge_of_active c.args.table.now c.args.process c.in_ok-ok.field-0.mode mode c.in-Active.is)

pub returns-in_err-ok-2 : goal.returns-in_err-ok-2
returns-in_err-ok-2 c =
    let mode = mode_told c.args.table.now c.args.process c.in_ok-waiter.waiter c.in_ok-ok.field-0 (sym c.tenant.ensures ∙ c.in_ok-waiter.was) (ap result_ok (sym c.state.ensures) ∙ sym c.ok.ensures.value ∙ c.in_ok-ok.was) in
    let waits : wait_of c.args.table.now c.args.process ≡ Some c.match-branch-3.resource = elim c.match-branch-3.branch [
      | in-Waiting w ↦ waits_for c.args.table.now c.args.process c.match-branch-3.resource w.in-Waiting.resource c.in_ok-ok.field-0.mode mode w.resource-is w.in-Waiting.is
      | in-Waiting-2 w ↦ waits_for c.args.table.now c.args.process c.match-branch-3.resource w.in-Waiting.resource c.in_ok-ok.field-0.mode mode w.resource-is w.in-Waiting.is
    ] in
    let free = owner_refused c.args.table.now c.match-branch-3.resource c.keeps_laws.ensures (ap result_ok (sym c.owner.ensures) ∙ sym c.ok-2.ensures.value ∙ c.in_err-ok-2.was) in
    c.from_residual-in_err-ok-2.ensures ∙ sym (no_edge_to_nobody c.args.table.now c.args.process c.match-branch-3.resource waits free)

pub returns-in_err-holder : goal.returns-in_err-holder
returns-in_err-holder c =
    let mode = mode_told c.args.table.now c.args.process c.in_ok-waiter.waiter c.in_ok-ok.field-0 (sym c.tenant.ensures ∙ c.in_ok-waiter.was) (ap result_ok (sym c.state.ensures) ∙ sym c.ok.ensures.value ∙ c.in_ok-ok.was) in
    let waits : wait_of c.args.table.now c.args.process ≡ Some c.match-branch-3.resource = elim c.match-branch-3.branch [
      | in-Waiting w ↦ waits_for c.args.table.now c.args.process c.match-branch-3.resource w.in-Waiting.resource c.in_ok-ok.field-0.mode mode w.resource-is w.in-Waiting.is
      | in-Waiting-2 w ↦ waits_for c.args.table.now c.args.process c.match-branch-3.resource w.in-Waiting.resource c.in_ok-ok.field-0.mode mode w.resource-is w.in-Waiting.is
    ] in
    let free = owner_read c.args.table.now c.match-branch-3.resource c.in_ok-ok-2.field-0 (ap result_ok (sym c.owner.ensures) ∙ sym c.ok-2.ensures.value ∙ c.in_ok-ok-2.was) ∙ c.in_err-holder.was in
    c.from_residual-in_err-holder.ensures ∙ sym (no_edge_to_nobody c.args.table.now c.args.process c.match-branch-3.resource waits free)

pub returns : goal.returns
returns c =
    let mode = mode_told c.args.table.now c.args.process c.in_ok-waiter.waiter c.in_ok-ok.field-0 (sym c.tenant.ensures ∙ c.in_ok-waiter.was) (ap result_ok (sym c.state.ensures) ∙ sym c.ok.ensures.value ∙ c.in_ok-ok.was) in
    let waits : wait_of c.args.table.now c.args.process ≡ Some c.match-branch-3.resource = elim c.match-branch-3.branch [
      | in-Waiting w ↦ waits_for c.args.table.now c.args.process c.match-branch-3.resource w.in-Waiting.resource c.in_ok-ok.field-0.mode mode w.resource-is w.in-Waiting.is
      | in-Waiting-2 w ↦ waits_for c.args.table.now c.args.process c.match-branch-3.resource w.in-Waiting.resource c.in_ok-ok.field-0.mode mode w.resource-is w.in-Waiting.is
    ] in
    let held = owner_read c.args.table.now c.match-branch-3.resource c.in_ok-ok-2.field-0 (ap result_ok (sym c.owner.ensures) ∙ sym c.ok-2.ensures.value ∙ c.in_ok-ok-2.was) ∙ c.in_ok-holder.was in
    edge_made c.args.table.now c.args.process c.match-branch-3.resource c.in_ok-waiter.waiter c.in_ok-holder.holder (sym c.tenant.ensures ∙ c.in_ok-waiter.was) waits held
