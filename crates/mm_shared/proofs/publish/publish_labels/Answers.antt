use Rattle.std.proofs.Common.{IsTrue, arith, slice_index, subst, sym, ap, refl, ◌∙◌}
use Rattle.std.proofs.lemmas.List.{drop_all}
use Rattle.mm_board.specs.declared.views.Published.{Published}
use Rattle.mm_board.specs.Views.{current_label}
use Rattle.mm_label.specs.Label.{Label, label_le}
use Rattle.mm_shared.specs.private.Publishing.{HoldersAreShown, IsToPublish}
use Rattle.mm_shared.proofs.Publishing.{all_stored, appends_none, listed_within, label_stored_at, appends_at}
use Rattle.mm_shared.proofs.publish.publish_labels.Goals as goal

pub loop-process-init : goal.loop-process-init
loop-process-init g c = record {
  left = c.requires.labels;
  holders = c.requires.holders;
  appends = appends_none c.args.publisher.now c.args.table.now;
  held = refl;
}

pub public_label-requires : goal.public_label-requires
public_label-requires g c = listed_within c.loop-process.process-index c.args.processes.now c.loop-process.publisher c.args.table.now c.loop-process-test.true c.loop-process.invariant.left

pub store_label-requires-clause-process_in_range : goal.store_label-requires-clause-process_in_range
store_label-requires-clause-process_in_range g c =
    let within = listed_within c.loop-process.process-index c.args.processes.now c.loop-process.publisher c.args.table.now c.loop-process-test.true c.loop-process.invariant.left in
    omega (arith, within, c.fits.ensures.histories, c.requires.labels.histories)

pub loop-process-preserved : goal.loop-process-preserved
loop-process-preserved g c =
    let i = c.loop-process.process-index in
    let ns = c.args.processes.now in
    let s = c.args.table.now in
    let now = c.loop-process.publisher in
    let kept = c.loop-process.invariant in
    let within = listed_within i ns now s c.loop-process-test.true kept.left in
    record {
      left = label_stored_at i ns now c.store_label.new.self s c.public_label.result c.loop-process-test.true kept.left c.store_label.ensures.stored c.public_label.ensures kept.holders;
      holders = subst (λ (p : Published). HoldersAreShown p s) (sym c.store_label.ensures.stored) kept.holders;
      appends = appends_at c.args.publisher.now now c.store_label.new.self s (slice_index ns i) c.public_label.result kept.appends (omega (arith, within, kept.left.histories)) c.store_label.ensures.stored c.public_label.ensures;
      held = ap (λ (p : Published). p.holders_stored) c.store_label.ensures.stored ∙ kept.held;
    }

pub returns-clause-published : goal.returns-clause-published
returns-clause-published g c =
    let s = c.args.table.now in
    let now = c.loop-process.publisher in
    all_stored now s (subst (λ ns. IsToPublish ns now s) (drop_all c.loop-process.process-index c.args.processes.now c.loop-process-test.false) c.loop-process.invariant.left)

pub store_label-requires-clause-rises : goal.store_label-requires-clause-rises
store_label-requires-clause-rises g c =
    let x = slice_index c.args.processes.now c.loop-process.process-index in
    let left = c.loop-process.invariant.left in
    let within = listed_within c.loop-process.process-index c.args.processes.now c.loop-process.publisher c.args.table.now c.loop-process-test.true left in
    subst (λ (l : Label). IsTrue (label_le (current_label c.loop-process.publisher x) l)) (sym c.public_label.ensures) (left.below x within)

pub returns-clause-appends : goal.returns-clause-appends
returns-clause-appends g c = c.loop-process.invariant.appends

pub returns-clause-held : goal.returns-clause-held
returns-clause-held g c = c.loop-process.invariant.held
