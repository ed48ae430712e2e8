use Rattle.std.proofs.Common.{◌++◌, ◌∷◌, [], length, map, sym, ap, ◌∙◌, arith}
use Rattle.std.proofs.lemmas.List.FromFn.{length-map-range_with_len, map-range_with_len_more}
use Rattle.std.specs.List.{range_with_len}
use Rattle.mm_table.specs.private.Labels.{opening_labels}
use Rattle.mm_table.proofs.labels.labels_at_opening.Goals as goal

pub push_reserved-requires : goal.push_reserved-requires
push_reserved-requires c =
    let made = ap length c.loop-process.invariant.0 ∙ length-map-range_with_len opening_labels 0 c.loop-process.process in
    omega (arith, c.loop-process.labels.ok.0, made, c.loop-process-test.true, c.loop-process.invariant.1)

pub loop-process-preserved : goal.loop-process-preserved
loop-process-preserved c =
    let process = c.loop-process.process in
    let items = c.push_reserved.ensures.items
    ∙ ap (λ l. l ++ c.at_opening.result ∷ []) c.loop-process.invariant.0
    ∙ ap (λ l. map opening_labels (range_with_len 0 process) ++ l ∷ []) c.at_opening.ensures
    ∙ sym (map-range_with_len_more opening_labels 0 process process (omega arith)) in
    (items, omega (arith, c.push_reserved.ensures.capacity, c.loop-process.invariant.1))
