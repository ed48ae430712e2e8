use Rattle.std.proofs.Common.{◌≡◌, ◌<◌, ℕ, Bool, false, Option, Some, None, is_some, IfNone, IfSome, IsTrue, length, slice_index, subst, sym, ap, ◌∙◌, arith}
use Rattle.std.proofs.lemmas.List.{drop_all}
use Rattle.mm_board.specs.declared.views.Published.{Published}
use Rattle.mm_board.specs.Views.{with_label, with_holder, current_label, IsAnother}
use Rattle.mm_label.specs.Label.{Label, label_le}
use Rattle.mm_shared.specs.Published.{AppendsOnly}
use Rattle.mm_shared.specs.private.Publishing.{IdleAreShown, IsToPublish}
use Rattle.mm_shared.proofs.Publishing.{all_stored, appends_none, listed_within, both_stored_at, holder_stored_at, appends_at, idle_at}
use Rattle.mm_shared.proofs.publish.publish.Goals.{then-is_some, else-is_some}
use Rattle.mm_shared.proofs.publish.publish.Goals as goal

pub loop-process-init : goal.loop-process-init
loop-process-init g c = record {
  left = c.requires.left;
  idle = c.requires.idle;
  appends = appends_none c.args.publisher.now c.args.table.now;
  held = omega arith;
}

pub public_label-requires : goal.public_label-requires
public_label-requires g c = listed_within c.loop-process.process-index c.args.processes.now c.loop-process.publisher c.args.table.now c.loop-process-test.true c.loop-process.invariant.left

pub store_label-requires-clause-process_in_range : goal.store_label-requires-clause-process_in_range
store_label-requires-clause-process_in_range g c =
    let within = listed_within c.loop-process.process-index c.args.processes.now c.loop-process.publisher c.args.table.now c.loop-process-test.true c.loop-process.invariant.left in
    omega (arith, within, c.fits.ensures.histories, c.requires.left.histories)

pub store_holder-requires-clause-process_in_range : goal.store_holder-requires-clause-process_in_range
store_holder-requires-clause-process_in_range g c =
    let within = listed_within c.loop-process.process-index c.args.processes.now c.loop-process.publisher c.args.table.now c.loop-process-test.true c.loop-process.invariant.left in
    omega (arith, within, c.fits.ensures.histories, c.requires.left.histories)

-- who has no holder waits for nothing
waits_not : (holder : Option ℕ) (found : Bool) (Idle : Type 0) → found ≡ is_some holder → found ≡ false → IfNone holder Idle → Idle
waits_not None found Idle is none idle = idle
waits_not (Some h) found Idle is none idle = absurd (cc)

-- equal publishers have stored as many holders
count : {p q : Published} → p ≡ q → p.holders_stored ≡ q.holders_stored
count e = ap (λ (p : Published). p.holders_stored) e

pub loop-process-preserved : goal.loop-process-preserved
loop-process-preserved g c =
    let i = c.loop-process.process-index in
    let ns = c.args.processes.now in
    let x = slice_index ns i in
    let s = c.args.table.now in
    let first = c.args.publisher.now in
    let now = c.loop-process.publisher in
    let then = c.if-is_some.publisher in
    let after = c.store_holder.new.self in
    let holder = c.holder-holder.result in
    let listed = c.loop-process-test.true in
    let kept = c.loop-process.invariant in
    let stored = c.store_holder.ensures.stored in
    let has = c.holder-holder.ensures.holder in
    elim c.if-is_some.branch [
      | then-is_some w ↦
          let l = w.public_label.result in
          let is = w.public_label.ensures in
          let put : then ≡ with_label now x l = w.publisher-is ∙ w.store_label.ensures.stored in
          let inside : x < length now.histories = omega (arith, listed_within i ns now s listed kept.left, kept.left.histories) in
          record {
            left = both_stored_at i ns now then after s l holder listed kept.left put is stored has;
            idle = subst (λ (p : Published). IdleAreShown p s) (sym stored) (idle_at now then s x l kept.idle inside put is);
            appends = subst (λ (p : Published). AppendsOnly first p s) (sym stored) (appends_at first now then s x l kept.appends inside put is);
            held = omega (arith, count stored, count put, kept.held);
          }
      | else-is_some w ↦
          let put : after ≡ with_holder now x holder = stored ∙ ap (λ (p : Published). with_holder p x holder) w.publisher-is in
          record {
            left = holder_stored_at i ns now after s holder listed kept.left put has kept.idle (waits_not holder c.is_some.result _ c.is_some.ensures w.if-is_some.false c.holder-holder.ensures.idle);
            idle = subst (λ (p : Published). IdleAreShown p s) (sym put) kept.idle;
            appends = subst (λ (p : Published). AppendsOnly first p s) (sym put) kept.appends;
            held = omega (arith, count put, kept.held);
          }
    ]

pub returns-clause-published : goal.returns-clause-published
returns-clause-published g c =
    let s = c.args.table.now in
    let now = c.loop-process.publisher in
    all_stored now s (subst (λ ns. IsToPublish ns now s) (drop_all c.loop-process.process-index c.args.processes.now c.loop-process-test.false) c.loop-process.invariant.left)

pub store_label-requires-clause-rises : goal.store_label-requires-clause-rises
store_label-requires-clause-rises g c =
    let x = slice_index c.args.processes.now c.loop-process.process-index in
    let left = c.loop-process.invariant.left in
    let within = listed_within c.loop-process.process-index c.args.processes.now c.loop-process.publisher c.args.table.now c.loop-process-test.true left in
    subst (λ (l : Label). IsTrue (label_le (current_label c.loop-process.publisher x) l)) (sym c.public_label.ensures) (left.below x within)

pub store_holder-requires-clause-another : goal.store_holder-requires-clause-another
store_holder-requires-clause-another g c =
    let x = slice_index c.args.processes.now c.loop-process.process-index in
    subst (λ (n : ℕ). IfSome c.holder-holder.result (λ other. IsAnother n x other)) (sym c.requires.left.histories ∙ c.fits.ensures.histories) c.holder-holder.ensures.another

pub returns-clause-appends : goal.returns-clause-appends
returns-clause-appends g c = c.loop-process.invariant.appends
