use Rattle.std.proofs.Common.{◌≡◌, ◌≤◌, true, length, slice_set, sym, ap, subst, ◌∙◌, arith, length-set}
use Rattle.mm_label.specs.Label.{fresh_label}
use Rattle.mm_table.specs.declared.labels.ProcessLabels.{ProcessLabels}
use Rattle.mm_table.specs.private.Labels.{both, label_under, public_in, written_under, labels_under, FitUnder, added_each}
use Rattle.mm_table.proofs.Fields.BlockQueue.{first_fits}
use Rattle.mm_table.proofs.Fields.Labels.{at_most_set, at_most_more}
use Rattle.mm_table.proofs.labels.Labels.block_each.Goals as goal

pub loop-process-init : goal.loop-process-init
loop-process-init c =
    let all = sym c.into_iter-process-iterator.ensures.into_iter_gives in
    record {
      labels = ap (λ ls. labels_under ls c.args.shown c.into_iter-process-iterator.result) c.self.view_is ∙ ap (labels_under c.args.self.now c.args.shown) (sym all);
      fit = subst (λ ls. FitUnder ls c.args.shown c.into_iter-process-iterator.result) (sym c.self.view_is) (subst (FitUnder c.args.self.now c.args.shown) all c.requires.fit);
      greatest = c.self.invariant;
      touched = ap (added_each c.args.touched.now) (sym all);
      sized = c.requires.sized ∙ ap length (sym c.self.view_is);
    }

pub shown_by-requires : goal.shown_by-requires
shown_by-requires c =
    let first = first_fits c.loop-process.self-inside.processes.items c.args.shown c.in-Some.process c.next.new.self c.loop-process.process-iterator c.in-Some.ensures.steps c.loop-process.invariant.fit in
    omega (arith, first.within, ap length c.deref.ensures.value)

pub fresh_in_range-label-requires-clause-process_in_range : goal.fresh_in_range-label-requires-clause-process_in_range
fresh_in_range-label-requires-clause-process_in_range c =
    (first_fits c.loop-process.self-inside.processes.items c.args.shown c.in-Some.process c.next.new.self c.loop-process.process-iterator c.in-Some.ensures.steps c.loop-process.invariant.fit).process

pub fresh_in_range-label-requires-clause-counter_in_range : goal.fresh_in_range-label-requires-clause-counter_in_range
fresh_in_range-label-requires-clause-counter_in_range c =
    let n = c.in-Some.process in
    let first = first_fits c.loop-process.self-inside.processes.items c.args.shown n c.next.new.self c.loop-process.process-iterator c.in-Some.ensures.steps c.loop-process.invariant.fit in
    let own = c.shown_by.ensures ∙ ap (λ ls. public_in ls n) c.deref.ensures.value in
    omega (arith, first.counter, ap (λ l. (fresh_label l c.args.shown n).counter) own)

pub index_mut-requires : goal.index_mut-requires
index_mut-requires c =
    let first = first_fits c.loop-process.self-inside.processes.items c.args.shown c.in-Some.process c.next.new.self c.loop-process.process-iterator c.in-Some.ensures.steps c.loop-process.invariant.fit in
    omega (arith, first.within, ap length c.deref.ensures.value, c.deref.ensures.len)

pub add-requires : goal.add-requires
add-requires c =
    let first = first_fits c.loop-process.self-inside.processes.items c.args.shown c.in-Some.process c.next.new.self c.loop-process.process-iterator c.in-Some.ensures.steps c.loop-process.invariant.fit in
    omega (arith, first.within, c.loop-process.invariant.sized)

pub loop-process-preserved : goal.loop-process-preserved
loop-process-preserved c =
    let items = c.loop-process.self-inside.processes.items in
    let shown = c.args.shown in
    let n = c.in-Some.process in
    let rest = c.next.new.self in
    let loop = c.loop-process.invariant in
    let steps = c.in-Some.ensures.steps in
    let first = first_fits items shown n rest c.loop-process.process-iterator steps loop.fit in
    let own = c.shown_by.ensures ∙ ap (λ ls. public_in ls n) c.deref.ensures.value in
    let label : c.fresh_in_range-label.result ≡ label_under items n shown = c.fresh_in_range-label.ensures.label ∙ ap (λ l. fresh_label l shown n) own in
    let written : slice_set items n c.both.result ≡ written_under items n shown = ap (slice_set items n) (c.both.ensures ∙ ap both label) in
    let below : c.both.result.public.counter ≤ c.raise_to.new.greatest.counter = omega (arith, ap (λ (b : ProcessLabels). b.public.counter) c.both.ensures, c.raise_to.ensures.raised) in
    let before = at_most_more c.loop-process.greatest.counter c.raise_to.new.greatest.counter items c.raise_to.ensures.kept loop.greatest in
    record {
      labels = ap (λ ls. labels_under ls shown rest) written ∙ ap (labels_under items shown) (sym steps) ∙ loop.labels;
      fit = subst (λ ls. FitUnder ls shown rest) (sym written) first.others;
      greatest = at_most_set c.raise_to.new.greatest.counter items n c.both.result below before;
      touched = ap (λ set. added_each set rest) c.add.ensures ∙ ap (added_each c.loop-process.touched) (sym steps) ∙ loop.touched;
      sized = ap length c.add.ensures ∙ length-set c.loop-process.touched n true ∙ loop.sized ∙ sym (length-set items n c.both.result);
    }

pub invariant_of-self : goal.invariant_of-self
invariant_of-self c = c.loop-process.invariant.greatest

pub returns-clause-labels : goal.returns-clause-labels
returns-clause-labels c =
    ap (labels_under c.loop-process.self-inside.processes.items c.args.shown) (sym c.in-None.ensures.steps.0) ∙ c.loop-process.invariant.labels

pub returns-clause-touched : goal.returns-clause-touched
returns-clause-touched c = ap (added_each c.loop-process.touched) (sym c.in-None.ensures.steps.0) ∙ c.loop-process.invariant.touched
