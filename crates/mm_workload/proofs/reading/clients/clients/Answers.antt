use Rattle.std.proofs.Common.{◌≡◌, ◌∙◌, ◌+◌, drop, subst, sym, ap, rules, arith, ◌≤◌, length, map, Some, None, codes, option_and_then}
use Rattle.serde_json.specs.View.{view, items_view}
use Rattle.serde_json.specs.Find.{as_array, get}
use Rattle.std.specs.List.{All}
use Rattle.mm_workload.specs.Work.{IsShort}
use Rattle.mm_workload.specs.Json.{steps_of, all_in}
use Rattle.mm_workload.proofs.Lemmas.Items.{GoesOn, all_in-over, all_in-under, all_in-within, goes_on-end, goes_on-next, in_array, longer, one_mapped, one_short}
use Rattle.mm_workload.proofs.reading.clients.clients.Goals.{then-is_empty-via-then-is_empty, then-is_empty-via-else-is_empty+then-len-gt-MAX_CLIENTS}
use Rattle.mm_workload.proofs.reading.clients.clients.Goals as goal

pub returns-then-is_empty-clause-malformed : goal.returns-then-is_empty-clause-malformed
returns-then-is_empty-clause-malformed c = λ _.
    let items = c.in-Some-as_array.items.now.items in
    let member = get (codes "clients") (view c.args.value.now) in
    let is : option_and_then as_array member ≡ Some (items_view items) = search rules in
    let refused : all_in 1 64 steps_of (items_view items) ≡ None = elim c.then-is_empty.branch [
      | then-is_empty-via-then-is_empty w ↦ all_in-under 1 64 steps_of items (search rules)
      | then-is_empty-via-else-is_empty+then-len-gt-MAX_CLIENTS w ↦ all_in-over 1 64 steps_of items (search rules)
    ] in
    in_array (all_in 1 64 steps_of) member ∙ (ap (option_and_then (all_in 1 64 steps_of)) is ∙ refused)

pub returns-clause-ok : goal.returns-clause-ok
returns-clause-ok c =
    let items = c.deref-item-items.result.now in
    let member = get (codes "clients") (view c.args.value.now) in
    let is : option_and_then as_array member ≡ Some (items_view items) = search rules in
    let some : 1 ≤ length items = search rules in
    let few : length items ≤ 64 = search rules in
    in_array (all_in 1 64 steps_of) member ∙ (ap (option_and_then (all_in 1 64 steps_of)) is
    ∙ (all_in-within 1 64 steps_of items some few
    ∙ goes_on-end steps_of (map (λ k. k.items) c.clients.made.items) items c.clients.index (omega arith) c.clients.invariant.on))

pub clients-preserved : goal.clients-preserved
clients-preserved c =
    let items = c.deref-item-items.result.now in
    let made = c.in_ok-push.ensures.items in
    let before = map (λ k. k.items) c.clients.made.items in
    let own = c.in_ok-steps.field-0.items in
    let is = one_mapped (λ k. k.items) c.clients.made.items c.push.new.self.items c.in_ok-steps.field-0 made in
    let next = goes_on-next steps_of before items c.clients.index c.item-item.result own c.item-item.is c.clients-test.true c.in_ok-steps.ensures.ok c.clients.invariant.on in
    record {
      on = subst (λ k. GoesOn steps_of k items (drop (c.clients.index + 1) items)) (sym is) next;
      long = longer c.clients.made.items c.push.new.self.items c.in_ok-steps.field-0 c.clients.index made c.clients.invariant.long;
      short = subst (All IsShort) (sym is) (one_short before own c.clients.invariant.short c.in_ok-steps.ensures.short);
    }
