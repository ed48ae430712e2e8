use Rattle.std.proofs.Common.{◌≡◌, ◌∙◌, ap, rules, arith, ◌+◌, drop, Some, option_and_then, subst, sym}
use Rattle.serde_json.specs.View.{view, items_view}
use Rattle.serde_json.specs.Find.{as_array}
use Rattle.mm_workload.specs.Json.{step_of, all_in}
use Rattle.mm_workload.proofs.Lemmas.Items.{GoesOn, all_in-over, all_in-within, goes_on-end, goes_on-next, goes_on-none, longer}
use Rattle.mm_workload.proofs.reading.clients.steps.Goals as goal

pub returns-then-len-gt-MAX_STEPS-clause-malformed : goal.returns-then-len-gt-MAX_STEPS-clause-malformed
returns-then-len-gt-MAX_STEPS-clause-malformed c = λ _.
    let items = c.in-Some.items.now.items in
    let is : as_array (view c.args.value.now) ≡ Some (items_view items) = search rules in
    ap (option_and_then (all_in 0 256 step_of)) is ∙ all_in-over 0 256 step_of items (search rules)

pub returns-clause-ok : goal.returns-clause-ok
returns-clause-ok c =
    let items = c.deref-item-items.result.now in
    let is : as_array (view c.args.value.now) ≡ Some (items_view items) = search rules in
    let within = all_in-within 0 256 step_of items (search rules) (search rules) in
    ap (option_and_then (all_in 0 256 step_of)) is
    ∙ (within ∙ goes_on-end step_of c.steps.made.items items c.steps.index (omega arith) c.steps.invariant.on)

pub returns-in-Err-clause-malformed : goal.returns-in-Err-clause-malformed
returns-in-Err-clause-malformed c = λ _.
    let items = c.deref-item-items.result.now in
    let is : as_array (view c.args.value.now) ≡ Some (items_view items) = search rules in
    let within = all_in-within 0 256 step_of items (search rules) (search rules) in
    ap (option_and_then (all_in 0 256 step_of)) is
    ∙ (within ∙ goes_on-none step_of c.steps.made.items items c.steps.index c.item-item.result c.item-item.is c.steps-test.true c.in-Err.ensures c.steps.invariant.on)

pub steps-preserved : goal.steps-preserved
steps-preserved c =
    let items = c.deref-item-items.result.now in
    let made = c.in_ok-push-in-Ok.ensures.items in
    let next = goes_on-next step_of c.steps.made.items items c.steps.index c.item-item.result c.in-Ok.step c.item-item.is c.steps-test.true c.in-Ok.ensures c.steps.invariant.on in
    record {
      on = subst (λ k. GoesOn step_of k items (drop (c.steps.index + 1) items)) (sym made) next;
      long = longer c.steps.made.items c.push.new.self.items c.in-Ok.step c.steps.index made c.steps.invariant.long;
    }
